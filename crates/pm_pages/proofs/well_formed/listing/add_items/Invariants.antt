use Rattle.std.proofs.Common.{◌≡◌, ◌++◌, drop}
use Rattle.pm_btpage.specs.IndexPages.{items_of}
use Rattle.pm_pages.specs.TreeItems.{as_items}
use Rattle.pm_pages.proofs.well_formed.listing.add_items.Given as goal

-- the items so far and those that are left are all
abbrev pub invariant-items : goal.invariant-items
invariant-items l = as_items l.items.items ++ drop l.i (items_of l.leaf) ≡ as_items l.initial.items.items ++ items_of l.leaf
