use Rattle.std.proofs.Common.{◌-◌, ℕ, ◌<◌}
use Rattle.std.specs.Prelude.{All}
use Rattle.pm_btpage.specs.IndexPages.{items_of}
use Rattle.pm_pages.specs.PageLists.{pages_in}
use Rattle.pm_pages.specs.Trees.{child_of, items_below, IsWithin, IsTree}
use Rattle.pm_pages.proofs.well_formed.trees.+is_tree.Given as goal

abbrev pub decreases-is_tree : goal.decreases-is_tree
decreases-is_tree l = l.levels

-- the children so far are trees within their bounds
abbrev pub invariant-children : goal.invariant-children
invariant-children l = (j : ℕ) → j < l.i → IsTree (pages_in l.pages) (l.levels - 1) l.half (child_of l.root j) × All (IsWithin (items_of l.root) j) (items_below (pages_in l.pages) (l.levels - 1) (child_of l.root j))
