use Rattle.std.proofs.Common.{◌≡◌, ◌-◌, ◌++◌, drop}
use Rattle.std.specs.List.{flat_map}
use Rattle.pm_pages.specs.PageLists.{pages_in}
use Rattle.pm_pages.specs.Trees.{children_of, nodes_below}
use Rattle.pm_pages.proofs.well_formed.placed.+add_nodes.Given as goal

abbrev pub decreases-add_nodes : goal.decreases-add_nodes
decreases-add_nodes l = l.levels

-- what is appended, with what stands below the children that are left, is all
abbrev pub invariant-children : goal.invariant-children
invariant-children l =
    l.nodes.items ++ flat_map (nodes_below (pages_in l.pages) (l.levels - 1)) (drop l.i (children_of l.root))
    ≡ l.initial.nodes.items ++ flat_map (nodes_below (pages_in l.pages) (l.levels - 1)) (children_of l.root)
