-- Pages that pass their checks, of which one of a tree may have lost its last item.
use Rattle.std.specs.Prelude.{◌≡◌, ℕ, ◌^◌, ◌<◌, ◌≤◌, ◌⊎◌, List, Some, length}
use Rattle.pm_types.specs.declared.limits.TheConstants.{ROWS_MAX}
use Rattle.pm_types.specs.Ids.{page_id}
use Rattle.pm_btpage.specs.IndexPages.{index_of, IsIndexPage}
use Rattle.pm_btpage.specs.Stored.{NamesPagesOf}
use Rattle.pm_pages.specs.Rows.{page_count}
use Rattle.pm_pages.specs.Paged.{Paged, PassesIn}
use Rattle.pm_pages.specs.StoredPages.{IsStoredPage}

-- an index page under its own name, with names of pages of its partition, and with items or without
pub record IsNamedIndex (p : Paged) (i : ℕ) (page : List ℕ) : Type 0 where
  pub size : length page ≡ p.page_size
  pub own : (index_of page).id ≡ page_id p.part i
  pub well_made : IsIndexPage page
  pub names : NamesPagesOf p.part (index_of page)

-- page i is there, and passes its check or would if it had an item
abbrev pub IsNearlyStored : Paged → ℕ → Type 0
IsNearlyStored p i = (page : List ℕ) × (p.pages i ≡ Some page) × (PassesIn p i page ⊎ IsNamedIndex p i page)

-- A partition whose pages pass their checks, but for index pages without items, of a number and with as many
-- rows as a store may have.
pub record AreNearlyStored (p : Paged) : Type 0 where
  pub meta : IsStoredPage p 0
  pub each : (i : ℕ) → 1 ≤ i → i < page_count p.pages → IsNearlyStored p i
  pub rows : p.max_rows ≤ ROWS_MAX
  pub part : p.part < 2 ^ 16
