-- How many items a tree of as many levels as it may have has.
use Rattle.std.specs.Prelude.{ℕ, ◌≤◌, List, length}
use Rattle.pm_types.specs.PageSizes.{IsPageSize}
use Rattle.pm_btpage.specs.IndexPages.{Item}
use Rattle.pm_pages.specs.declared.limits.TheConstants.{LEVELS_MAX}
use Rattle.pm_pages.specs.Rows.{Partition, page_at}
use Rattle.pm_pages.specs.Chains.{times}
use Rattle.pm_tree.specs.Indexes.{IsIndex}

-- an index of `LEVELS_MAX` levels has so many items at least, at any page size
abbrev pub TallHasItems : ℕ → Type 0
TallHasItems many = (pages : Partition) (root : ℕ) (nodes : List ℕ) (items : List Item)
    → ((i : ℕ) → 1 ≤ times i nodes → IsPageSize (length (page_at pages i)))
    → IsIndex pages root LEVELS_MAX nodes items → many ≤ length items
