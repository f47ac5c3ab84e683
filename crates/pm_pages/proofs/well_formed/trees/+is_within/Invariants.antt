use Rattle.std.proofs.Common.{◌-◌, ℕ, ◌<◌}
use Rattle.std.specs.Prelude.{All}
use Rattle.pm_btpage.specs.IndexPages.{items_of}
use Rattle.pm_pages.specs.PageLists.{pages_in}
use Rattle.pm_pages.specs.Trees.{child_of, items_below, IsWithin}
use Rattle.pm_pages.proofs.well_formed.trees.+is_within.Given as goal

abbrev pub decreases-is_within : goal.decreases-is_within
decreases-is_within l = l.levels

-- the items below the children so far are within the bounds
abbrev pub invariant-children : goal.invariant-children
invariant-children l = (j : ℕ) → j < l.k → All (IsWithin (items_of l.inner) l.i) (items_below (pages_in l.pages) (l.levels - 1) (child_of l.root j))
