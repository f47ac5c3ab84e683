-- The answers of removals.
use Rattle.std.proofs.Common.{◌≡◌, ℕ, List, None, Bool, true, false, sym, ap, subst, ◌∙◌}
use Rattle.std.specs.Option.{is_some}
use Rattle.pm_types.specs.declared.shape.Shape.{Shape}
use Rattle.pm_data.specs.Rows.{row_value}
use Rattle.pm_model.specs.Eval.{cache_key}
use Rattle.pm_model.proofs.CacheKeys.{remove-absent}
use Rattle.pm_pages.specs.Rows.{Partition, rows_of}
use Rattle.pm_pages.specs.RowMaps.{map_of}
use Rattle.pm_pages.specs.Paged.{Paged}
use Rattle.pm_pages.specs.Edits.{LooksAtPages, HasMeta}
use Rattle.pm_pages.proofs.ToldPages.{pages_told}
use Rattle.pm_tree.specs.Maps.{get_in}
use Rattle.pm_tree.proofs.Told.{below_count}
use Rattle.pm_part.specs.declared.spots.Spot.{Spot}
use Rattle.pm_part.specs.Spots.{HasRowIn}
use Rattle.pm_part.specs.Runs.{IsPartitionOf}
use Rattle.pm_part.specs.Removals.{DropsKey, RemovesKey}
use Rattle.pm_part.proofs.KeyedRows.{HasValue, get_there, get_absent}
use Rattle.pm_pages.proofs.Quantified.{Holds}
use Rattle.pm_part.proofs.ReadRows.{row_is_there}
use Rattle.pm_part.proofs.CacheIndexes.{HasIndex, no_row}

-- a row that was read is one of the partition
pub row_there : (p : Paged) (spot : Spot) (cache : ℕ) (key : List ℕ) → HasMeta p → (has : HasRowIn p spot cache key) → Holds (HasValue cache key (row_value has.row)) (rows_of p.part p.pages)
row_there p spot cache key meta has = row_is_there p.part p.pages spot.at spot.item cache key has.row has.page (below_count p spot.at meta has.below) has.in_hand.page has.is

-- a key that was there was removed
pub held_removed : (shape : Shape) (p : Paged) (new : Partition) (spot : Spot) (cache : ℕ) (key : List ℕ) → IsPartitionOf shape p → HasMeta p → HasRowIn p spot cache key → DropsKey p.part p.pages new cache key → RemovesKey p.part p.pages new cache key true
held_removed shape p new spot cache key is meta has drops = record {
  was_is = sym (ap is_some (get_there (rows_of p.part p.pages) cache key (row_value has.row) is.well_formed.keys_once.once (row_there p spot cache key meta has)));
  rows = drops.rows;
}

-- a key that wasn't there
pub none_removed : (T : Type 0) (a b : Paged) (m cache : ℕ) (key : List ℕ) → T → LooksAtPages T a b m → (ix : HasIndex a.pages (rows_of a.part a.pages) cache) → None ≡ get_in ix.items key → RemovesKey a.part a.pages b.pages cache key false
none_removed T a b m cache key t looks ix none =
    let rows = rows_of a.part a.pages in
    let absent = ap is_some (get_absent rows cache key (no_row rows cache key ix.items ix.lists (sym none))) in
    record {
      was_is = sym absent;
      rows = ap (λ (q : Partition). map_of (rows_of a.part q)) (pages_told T a b m t looks) ∙ sym (remove-absent (map_of rows) (cache_key cache key) absent);
    }

-- the same before pages were looked at
pub removes_looked : (T : Type 0) (a b : Paged) (m cache : ℕ) (key : List ℕ) (new : Partition) (was : Bool) → T → LooksAtPages T a b m → RemovesKey b.part b.pages new cache key was → RemovesKey a.part a.pages new cache key was
removes_looked T a b m cache key new was t looks removes = subst (λ (q : ℕ × Partition). RemovesKey q.0 q.1 new cache key was) {x = (b.part, b.pages)} {y = (a.part, a.pages)} (λ k. (looks.same.part k, pages_told T a b m t looks k)) removes
