-- The map of a partition whose pages stand in a worker's frames.
use Rattle.std.proofs.Common.{◌≡◌, ℕ, ◌<◌, ◌≤◌, Bool, true, false, List, Option, None, Some, sym, refl, ap, subst, ◌∙◌, arith}
use Rattle.std.specs.Prelude.{◌^◌, ◌||◌, ◌==◌, nat_lt, if◌then◌else◌, IfSome}
use Rattle.std.proofs.lemmas.Bool.{lt-ltb}
use Rattle.pm_types.specs.declared.limits.TheConstants.{ROWS_MAX}
use Rattle.pm_types.specs.declared.shape.Shape.{Shape}
use Rattle.pm_types.specs.Ids.{page_id}
use Rattle.pm_meta.specs.declared.slots.MetaSlot.TheVariants as slot
use Rattle.pm_pages.specs.Growth.{GrowsAbove}
use Rattle.pm_pages.specs.Passes.{PassesAsMeta}
use Rattle.pm_pages.specs.Rows.{Partition, number_of, page_count, rows_of}
use Rattle.pm_pages.specs.WellFormed.{IsWellFormed}
use Rattle.pm_pages.proofs.GrownPartitions.{grown, rows_stay}
use Rattle.pm_core.specs.BasePages.{counted}
use Rattle.pm_engine.proofs.FrameSteps.{cut, cut_there}

either_true : (a b : Bool) → b ≡ true → (a || b) ≡ true
either_true true b is = refl
either_true false b is = is

taken : (b : Bool) (o : Option (List ℕ)) → b ≡ true → (let p : Option (List ℕ) = if b then o else None in p) ≡ o
taken true o is = refl
taken false o is = absurd cc

count_in : (shape : Shape) (part : ℕ) (o : Option (List ℕ)) → shape.max_rows ≤ ROWS_MAX → IfSome o (PassesAsMeta shape.page_size shape.max_rows (page_id part 0)) → number_of o slot.Pages ≤ 2 ^ 32
count_in shape part None few meta = omega arith
count_in shape part (Some page) few meta = omega (arith, few, meta.stored.counts.pages)

-- a well-formed partition has no page whose index has more than 32 bits
pub count_short : (shape : Shape) (part : ℕ) (pages : Partition) → shape.max_rows ≤ ROWS_MAX → IsWellFormed shape part pages → page_count pages ≤ 2 ^ 32
count_short shape part pages few well = count_in shape part (pages 0) few well.all_pass.meta

module _ (shape : Shape) (part : ℕ) (pages : Partition) (below : part < shape.partitions) where
  -- the pages that the store may have
  abbrev pub cut_pages : Partition
  cut_pages index = cut shape part index (pages index)

  first_same : cut_pages 0 ≡ pages 0
  first_same = cut_there shape part 0 (pages 0) below (omega arith)

  same_count : page_count cut_pages ≡ page_count pages
  same_count = ap (λ o. number_of o slot.Pages) first_same

  grows : page_count pages ≤ 2 ^ 32 → GrowsAbove (counted cut_pages) pages
  grows few = record {
    meta = sym first_same;
    below = λ i lt.
        let inside : i < page_count cut_pages = lt in
        sym (taken (i == 0 || nat_lt i (page_count cut_pages)) (cut_pages i) (either_true (i == 0) (nat_lt i (page_count cut_pages)) (lt-ltb i (page_count cut_pages) inside))
        ∙ cut_there shape part i (pages i) below (omega (arith, inside, same_count, few)));
  }

  module _ (rows : shape.max_rows ≤ ROWS_MAX) where
    short_below : IsWellFormed shape part (counted cut_pages) → page_count pages ≤ 2 ^ 32
    short_below well = subst (λ n. n ≤ 2 ^ 32) same_count (count_short shape part (counted cut_pages) rows well)

    pub well_seen : IsWellFormed shape part (counted cut_pages) → IsWellFormed shape part pages
    well_seen well = (grown shape part (counted cut_pages) pages (grows (short_below well))).0 well

    pub well_cut : IsWellFormed shape part pages → IsWellFormed shape part (counted cut_pages)
    well_cut well = (grown shape part (counted cut_pages) pages (grows (count_short shape part pages rows well))).1 well

    -- the rows are the same
    pub rows_cut : IsWellFormed shape part pages → rows_of part (counted cut_pages) ≡ rows_of part pages
    rows_cut well = sym (rows_stay part (counted cut_pages) pages (grows (count_short shape part pages rows well)))
