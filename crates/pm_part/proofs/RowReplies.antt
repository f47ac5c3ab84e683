-- What a put or a remove leaves of the map of rows, and the reply to it.
use Rattle.std.proofs.Common.{◌≡◌, ℕ, ◌<◌, ◌≤◌, List, Bool, true, false, cond, length, sym, ap, subst, ◌∙◌}
use Rattle.std.specs.Prelude.{AllPairs}
use Rattle.std.specs.FinMap as finmap
use Rattle.pm_types.specs.declared.shape.Shape.{Shape}
use Rattle.pm_model.specs.Partitions.{part_of}
use Rattle.pm_model.specs.declared.cache_key.CacheKey.{CacheKey}
use Rattle.pm_model.specs.declared.line.Cmd.TheVariants.{Put, Remove}
use Rattle.pm_model.specs.declared.line.Line.{Line}
use Rattle.pm_model.specs.declared.line.Line.TheVariants.{Good}
use Rattle.pm_model.specs.declared.reply.Reply.{Reply}
use Rattle.pm_model.specs.declared.reply.Reply.TheVariants.{Done, Full, Was}
use Rattle.pm_model.specs.Eval.{cache_key, is_full, reply_to, after}
use Rattle.pm_model.proofs.CacheKeys.{remove-absent}
use Rattle.pm_pages.specs.declared.row.Row.{Row}
use Rattle.pm_pages.specs.RowMaps.{map_of}
use Rattle.pm_pages.specs.WellFormed.{AreDifferent}
use Rattle.pm_free.specs.Placed.{HasOneMore}
use Rattle.pm_part.proofs.KeyedRows.{HasKey, HasValue}
use Rattle.pm_part.proofs.RowKeys.{HasNoRow, holds_one, once_with_new}
use Rattle.pm_part.proofs.MappedRows.{map_added, map_taken, map_replaced, contains_key_there, contains_key_absent}
use Rattle.pm_part.proofs.FullPartitions.{AreOfPart, full_there, is_full_at, has_room}

-- over the map of the old rows a line has this reply, and it leaves the map of the new rows
pub record HasEffect (shape : Shape) (line : Line) (reply : Reply)
    (old new : List Row) : Type 0 where
  pub map_is : after shape line (map_of old) ≡ map_of new
  pub reply_is : reply_to shape line (map_of old) ≡ reply

key_of : (cache : ℕ) (key : List ℕ) (row : Row) → HasKey cache key row → cache_key row.cache row.key ≡ cache_key cache key
key_of cache key row has = λ i. cache_key (has.cache_is i) (has.key_is i)

-- a remove of a key that has a row
pub remove_of_row : (shape : Shape) (less all : List Row) (row : Row) (cache : ℕ) (key : List ℕ) → HasOneMore less all row → AllPairs AreDifferent all → HasKey cache key row → HasEffect shape (Good (Remove cache key)) (Was true) all less
remove_of_row shape less all row cache key one once has = record {
  map_is = sym (map_taken less all row one once ∙ ap (λ (at : CacheKey). finmap.remove (map_of all) at) (key_of cache key row has));
  reply_is = ap Was (contains_key_there all cache key once (holds_one (HasKey cache key) less all row one has));
}

-- of a key that has none
pub remove_without_row : (shape : Shape) (rows : List Row) (cache : ℕ) (key : List ℕ) → HasNoRow rows cache key → HasEffect shape (Good (Remove cache key)) (Was false) rows rows
remove_without_row shape rows cache key none = record {
  map_is = remove-absent (map_of rows) (cache_key cache key) (contains_key_absent rows cache key none);
  reply_is = ap Was (contains_key_absent rows cache key none);
}

put_accepted : (shape : Shape) (old new : List Row) (cache : ℕ) (key value : List ℕ) → is_full shape (cache_key cache key) (map_of old) ≡ false → map_of new ≡ finmap.insert (map_of old) (cache_key cache key) value → HasEffect shape (Good (Put cache key value)) Done old new
put_accepted shape old new cache key value room is = record {
  map_is = ap (λ (full : Bool). cond full (map_of old) (finmap.insert (map_of old) (cache_key cache key) value)) room ∙ sym is;
  reply_is = ap (λ (full : Bool). cond full Full Done) room;
}

-- a put of a new key, for which there is room
pub put_of_new : (shape : Shape) (part : ℕ) (less all : List Row) (row : Row) (cache : ℕ) (key value : List ℕ) → HasOneMore less all row → AllPairs AreDifferent less → AreOfPart shape.partitions part less → part_of key shape.partitions ≡ part → HasNoRow less cache key → length less < shape.max_rows → HasValue cache key value row → HasEffect shape (Good (Put cache key value)) Done less all
put_of_new shape part less all row cache key value one once own here none few is =
    let at = key_of cache key row is.has in
    let none_own : HasNoRow less row.cache row.key = subst (λ (at : ℕ × List ℕ). HasNoRow less at.0 at.1) (λ i. (sym is.has.cache_is i, sym is.has.key_is i)) none in
    put_accepted shape less all cache key value (has_room shape part less cache key once own here none few)
    (map_added less all row one (once_with_new less all row one none_own once)
    ∙ ap (λ (at : CacheKey). finmap.insert (map_of less) at row.value) at ∙ ap (finmap.insert (map_of less) (cache_key cache key)) is.value_is)

-- of a key that has a row
pub put_of_row : (shape : Shape) (less old new : List Row) (row other : Row) (cache : ℕ) (key value : List ℕ) → HasOneMore less old row → HasOneMore less new other → AllPairs AreDifferent old → HasKey cache key row → HasValue cache key value other → HasEffect shape (Good (Put cache key value)) Done old new
put_of_row shape less old new row other cache key value was now once has is =
    put_accepted shape old new cache key value (full_there shape old cache key once (holds_one (HasKey cache key) less old row was has))
    (map_replaced less old new row other was now (is.has.cache_is ∙ sym has.cache_is) (is.has.key_is ∙ sym has.key_is) once
    ∙ ap (λ (at : CacheKey). finmap.insert (map_of old) at other.value) (key_of cache key row has) ∙ ap (finmap.insert (map_of old) (cache_key cache key)) is.value_is)

-- of a new key, for which there is no room
pub put_when_full : (shape : Shape) (part : ℕ) (rows : List Row) (cache : ℕ) (key value : List ℕ) → AllPairs AreDifferent rows → AreOfPart shape.partitions part rows → part_of key shape.partitions ≡ part → HasNoRow rows cache key → shape.max_rows ≤ length rows → HasEffect shape (Good (Put cache key value)) Full rows rows
put_when_full shape part rows cache key value once own here none many =
    let full = is_full_at shape part rows cache key once own here none many in
    record {
      map_is = ap (λ (full : Bool). cond full (map_of rows) (finmap.insert (map_of rows) (cache_key cache key) value)) full;
      reply_is = ap (λ (full : Bool). cond full Full Done) full;
    }
