use Rattle.std.proofs.Common.{◌≡◌, ◌-◌, ◌++◌, drop}
use Rattle.std.specs.List.{flat_map}
use Rattle.pm_pages.specs.PageLists.{pages_in}
use Rattle.pm_pages.specs.Trees.{children_of, leaves_below}
use Rattle.pm_pages.proofs.well_formed.placed.+add_leaves.Given as goal

abbrev pub decreases-add_leaves : goal.decreases-add_leaves
decreases-add_leaves l = l.levels

-- what is appended, with what stands below the children that are left, is all
abbrev pub invariant-children : goal.invariant-children
invariant-children l =
    l.leaves.items ++ flat_map (leaves_below (pages_in l.pages) (l.levels - 1)) (drop l.i (children_of l.root))
    ≡ l.initial.leaves.items ++ flat_map (leaves_below (pages_in l.pages) (l.levels - 1)) (children_of l.root)
