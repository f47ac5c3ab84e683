use Rattle.std.proofs.Common.{ℕ, ◌<◌}
use Rattle.std.specs.Prelude.{Any}
use Rattle.std.specs.List.{slice_index_or}
use Rattle.pm_pages.specs.declared.well_formed.listing.TreeItem.{TreeItem}
use Rattle.pm_pages.specs.PageLists.{pages_in}
use Rattle.pm_pages.specs.Rows.{rows_of}
use Rattle.pm_pages.specs.TreeItems.{as_item}
use Rattle.pm_pages.specs.Trees.{IsItemOf}
use Rattle.pm_pages.proofs.well_formed.listing.items_are_of_rows.Given as goal

-- each item so far is of a row
abbrev pub invariant-items : goal.invariant-items
invariant-items l = (k : ℕ) (d : TreeItem) → k < l.item-index → Any (IsItemOf l.cache (as_item (slice_index_or l.items k d))) (rows_of l.part (pages_in l.pages))
