use Rattle.std.proofs.Common.{◌≡◌, ℕ, ◌<◌}
use Rattle.std.specs.Prelude.{Any}
use Rattle.std.specs.List.{slice_index_or}
use Rattle.pm_pages.specs.declared.row.Row.{Row}
use Rattle.pm_pages.specs.TreeItems.{as_item}
use Rattle.pm_pages.specs.Trees.{IsItemOf}
use Rattle.pm_pages.proofs.well_formed.listing.rows_are_listed.Given as goal

-- each row so far has its item
abbrev pub invariant-rows : goal.invariant-rows
invariant-rows l = (k : ℕ) (d : Row) → k < l.row-index → (slice_index_or l.rows k d).cache ≡ l.cache → Any (λ item. IsItemOf l.cache (as_item item) (slice_index_or l.rows k d)) l.items
