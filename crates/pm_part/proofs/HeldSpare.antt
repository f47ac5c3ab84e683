-- The pages of a well-formed partition that can be taken.
use Rattle.std.proofs.Common.{ℕ, ◌≤◌, ◌<◌, ◌++◌, arith}
use Rattle.std.specs.List.{flat_map, range_with_len}
use Rattle.pm_types.specs.declared.limits.TheConstants.{CACHES}
use Rattle.pm_types.specs.declared.shape.Shape.{Shape}
use Rattle.pm_meta.specs.declared.slots.MetaSlot.TheVariants.{Reuse}
use Rattle.pm_pages.specs.Rows.{Partition, page_at, page_count, number_in}
use Rattle.pm_pages.specs.Chains.{times, bucket_chain, reuse_chain, reuse_next_of}
use Rattle.pm_pages.specs.Trees.{nodes_of}
use Rattle.pm_pages.specs.SpareChains.{HasSpare}
use Rattle.pm_pages.specs.WellFormed.{IsWellFormed, placed_pages}
use Rattle.pm_pages.proofs.ChainWalks.{times-append, stands, all_stand, walk_some}
use Rattle.pm_part.proofs.CacheIndexes.{placed_once}

-- the reuse chain is among the pages that stand somewhere
spare_placed : (pages : Partition) (j : ℕ) → times j (reuse_chain pages) ≤ times j (placed_pages pages)
unfolding placed_pages
spare_placed pages j =
    let trees = flat_map (nodes_of pages) (range_with_len 0 CACHES) in
    let chains = flat_map (bucket_chain pages) (range_with_len 0 16) in
    omega (arith, times-append j trees (chains ++ reuse_chain pages), times-append j chains (reuse_chain pages))

pub held_spare : (shape : Shape) (part : ℕ) (pages : Partition) → IsWellFormed shape part pages → HasSpare pages
held_spare shape part pages is = record {
  kind = is.reuse;
  once = λ j. omega (arith, placed_once pages is.each_once j, spare_placed pages j);
  some = all_stand (λ i. 1 ≤ i) (reuse_chain pages) (λ j there. walk_some (λ i. reuse_next_of (page_at pages i)) (page_count pages) (number_in pages Reuse) j there);
  below = all_stand (λ i. i < page_count pages) (reuse_chain pages) (λ j there. stands (λ i. i < page_count pages) (placed_pages pages) is.each_once.below j (omega (arith, there, spare_placed pages j)));
}
