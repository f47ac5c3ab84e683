-- The replies to gets.
use Rattle.std.proofs.Common.{◌≡◌, ℕ, List, [], ◌∷◌, None, sym, ap, subst, ◌∙◌}
use Rattle.std.specs.FinMap as finmap
use Rattle.pm_types.specs.declared.shape.Shape.{Shape}
use Rattle.pm_data.specs.Rows.{row_value}
use Rattle.pm_model.specs.declared.reply.Reply.{Reply}
use Rattle.pm_model.specs.declared.reply.Reply.TheVariants.{Absent, Found}
use Rattle.pm_model.specs.declared.line.Cmd.TheVariants.{Get}
use Rattle.pm_model.specs.Eval.{cache_key, found}
use Rattle.pm_model.specs.ReplyLists.{ReplyList, with_replies}
use Rattle.pm_pages.specs.Rows.{Partition, rows_of}
use Rattle.pm_pages.specs.RowMaps.{map_of}
use Rattle.pm_pages.specs.Paged.{Paged}
use Rattle.pm_pages.specs.Edits.{LooksAtPages, HasMeta}
use Rattle.pm_tree.specs.Maps.{get_in}
use Rattle.pm_pages.proofs.ToldPages.{pages_told}
use Rattle.pm_tree.proofs.Told.{below_count}
use Rattle.pm_part.specs.declared.spots.Spot.{Spot}
use Rattle.pm_part.specs.Spots.{PushesValue}
use Rattle.pm_part.specs.Runs.{IsPartitionOf, RunsCmd}
use Rattle.pm_part.proofs.KeyedRows.{HasValue, get_there, get_absent}
use Rattle.pm_pages.proofs.Quantified.{Holds}
use Rattle.pm_part.proofs.ReadRows.{row_is_there}
use Rattle.pm_part.proofs.CacheIndexes.{HasIndex, no_row}

-- looks answer a get, and change nothing
got : (T : Type 0) (a d : Paged) (m : ℕ) (shape : Shape) (cache : ℕ) (key : List ℕ) (reply : Reply) (was now : ReplyList) → T → LooksAtPages T a d m → IsPartitionOf shape a → reply ≡ found (finmap.get (map_of (rows_of a.part a.pages)) (cache_key cache key)) → now ≡ with_replies (reply ∷ []) was → RunsCmd shape a.part (Get cache key) a.pages d.pages was now
got T a d m shape cache key reply was now t looks is same appended =
    let told = pages_told T a d m t looks in
    record {
      replied = appended ∙ ap (λ (r : Reply). with_replies (r ∷ []) was) same;
      map = ap (λ (q : Partition). map_of (rows_of a.part q)) told;
    }

-- the value of a row that was read
pub got_value : (T : Type 0) (a d : Paged) (m : ℕ) (shape : Shape) (cache : ℕ) (key : List ℕ) (spot : Spot) (was now : ReplyList) → T → LooksAtPages T a d m → HasMeta d → IsPartitionOf shape a → PushesValue d spot cache key was now → RunsCmd shape a.part (Get cache key) a.pages d.pages was now
got_value T a d m shape cache key spot was now t looks meta is pushes =
    let has = pushes.has in
    let told = pages_told T a d m t looks in
    let any = subst (λ (q : Partition). Holds (HasValue cache key (row_value has.row)) (rows_of a.part q)) told
    (row_is_there a.part d.pages spot.at spot.item cache key has.row has.page (below_count d spot.at meta has.below) has.in_hand.page has.is) in
    let value = get_there (rows_of a.part a.pages) cache key (row_value has.row) is.well_formed.keys_once.once any in
    got T a d m shape cache key (Found (row_value has.row)) was now t looks is (sym (ap found value)) pushes.pushed

-- no value where the index has no item of the key
pub got_none : (T : Type 0) (a d : Paged) (m : ℕ) (shape : Shape) (cache : ℕ) (key : List ℕ) (was now : ReplyList) → T → LooksAtPages T a d m → IsPartitionOf shape a → (ix : HasIndex a.pages (rows_of a.part a.pages) cache) → None ≡ get_in ix.items key → now ≡ with_replies (Absent ∷ []) was → RunsCmd shape a.part (Get cache key) a.pages d.pages was now
got_none T a d m shape cache key was now t looks is ix none appended =
    let absent = get_absent (rows_of a.part a.pages) cache key (no_row (rows_of a.part a.pages) cache key ix.items ix.lists (sym none)) in
    got T a d m shape cache key Absent was now t looks is (sym (ap found absent)) appended
