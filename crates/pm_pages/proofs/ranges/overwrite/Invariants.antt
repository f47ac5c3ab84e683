use Rattle.std.proofs.Common.{◌≡◌, ℕ, length}
use Rattle.pm_types.specs.DeltaRanges.{AreRanges, with_ranges}
use Rattle.pm_pages.proofs.ranges.overwrite.Given as goal

-- what is left are ranges, and with them the page is as with all
abbrev pub invariant-front : goal.invariant-front
invariant-front l = record {
  size : length l.page ≡ length l.initial.page;
  ranges : (low : ℕ) × AreRanges l.left low (length l.page) l.rest;
  same : with_ranges l.left l.rest l.page ≡ with_ranges l.number l.ranges l.initial.page;
}

abbrev pub decreases-front : goal.decreases-front
decreases-front l = l.left
