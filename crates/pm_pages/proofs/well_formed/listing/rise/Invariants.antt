use Rattle.std.proofs.Common.{ℕ, ◌+◌, ◌<◌}
use Rattle.pm_btpage.specs.IndexPages.{IsBelow, key_in}
use Rattle.pm_pages.specs.TreeItems.{as_items}
use Rattle.pm_pages.proofs.well_formed.listing.rise.Given as goal

-- each key so far is below the next
abbrev pub invariant-pairs : goal.invariant-pairs
invariant-pairs l = (k : ℕ) → k + 1 < l.i → IsBelow (key_in (as_items l.items) k) (key_in (as_items l.items) (k + 1))
