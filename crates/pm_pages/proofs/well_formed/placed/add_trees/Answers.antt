use Rattle.std.proofs.Common.{◌++◌}
use Rattle.std.specs.List.{flat_map, range_with_len}
use Rattle.pm_types.specs.declared.limits.TheConstants.{CACHES}
use Rattle.pm_pages.specs.PageLists.{pages_in}
use Rattle.pm_pages.specs.Trees.{nodes_of}
use Rattle.pm_pages.proofs.BelowTrees.{one_list_more, no_list_left}
use Rattle.pm_pages.proofs.well_formed.placed.add_trees.Goals as goal

pub caches-preserved : goal.caches-preserved
caches-preserved c =
    let pages = pages_in c.args.pages.now in
    one_list_more (nodes_of pages) c.caches.placed.items c.add_tree.new.placed.items (c.args.placed.now.items ++ flat_map (nodes_of pages) (range_with_len 0 CACHES)) c.caches.cache CACHES c.caches-test.true c.caches.invariant c.in_ok-add_tree.ensures

pub returns : goal.returns
returns c =
    let pages = pages_in c.args.pages.now in
    no_list_left (nodes_of pages) c.caches.placed.items (c.args.placed.now.items ++ flat_map (nodes_of pages) (range_with_len 0 CACHES)) c.caches.cache CACHES c.caches-test.false c.caches.invariant
