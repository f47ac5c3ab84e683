use Rattle.std.proofs.Common.{◌≡◌, ◌++◌, drop}
use Rattle.pm_pages.specs.PageLists.{pages_in}
use Rattle.pm_pages.specs.TreeItems.{as_items}
use Rattle.pm_pages.specs.Trees.{items_in}
use Rattle.pm_pages.proofs.well_formed.listing.items_in.Given as goal

-- the items so far and those of the leaves that are left are all
abbrev pub invariant-leaves : goal.invariant-leaves
invariant-leaves l = as_items l.items.items ++ items_in (pages_in l.pages) (drop l.leaf-index l.leaves) ≡ items_in (pages_in l.pages) l.leaves
