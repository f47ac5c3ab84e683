use Rattle.std.proofs.Common.{◌≡◌, ◌-◌, ◌++◌}
use Rattle.std.specs.List.{flat_map, range_with_len}
use Rattle.pm_types.specs.declared.limits.TheConstants.{CACHES}
use Rattle.pm_pages.specs.PageLists.{pages_in}
use Rattle.pm_pages.specs.Trees.{nodes_of}
use Rattle.pm_pages.proofs.well_formed.placed.add_trees.Given as goal

-- the pages so far and those of the trees that are left are all
abbrev pub invariant-caches : goal.invariant-caches
invariant-caches l =
    l.placed.items ++ flat_map (nodes_of (pages_in l.pages)) (range_with_len l.cache (CACHES - l.cache))
    ≡ l.initial.placed.items ++ flat_map (nodes_of (pages_in l.pages)) (range_with_len 0 CACHES)
