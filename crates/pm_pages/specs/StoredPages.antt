-- Pages that pass their checks before a call and after it.
use Rattle.std.specs.Prelude.{◌≡◌, ℕ, ◌+◌, ◌*◌, ◌^◌, ◌<◌, ◌≤◌, List, Some}
use Rattle.pm_types.specs.declared.limits.TheConstants.{ROWS_MAX}
use Rattle.pm_meta.specs.declared.layout.TheConstants.{EXTRA_PAGES}
use Rattle.pm_pages.specs.Paged.{Paged, PassesIn}
use Rattle.pm_pages.specs.SoundPages.{PassesAll, CanTake}

-- a partition whose pages pass their checks, of a number and with as many rows as a store may have
pub record IsStored (p : Paged) : Type 0 where
  pub all : PassesAll p
  pub rows : p.max_rows ≤ ROWS_MAX
  pub part : p.part < 2 ^ 16

-- Where so many pages can be taken within the limit of the page count, pages that pass their checks
-- do so still.
abbrev pub KeepsStored : Paged → Paged → ℕ → Type 0
KeepsStored old new most = (limit : ℕ) → limit ≤ 2 * old.max_rows + EXTRA_PAGES → CanTake limit old most
    → IsStored old → IsStored new

-- page i is there and passes its check
abbrev pub IsStoredPage : Paged → ℕ → Type 0
IsStoredPage p i = (page : List ℕ) × (p.pages i ≡ Some page) × PassesIn p i page

-- Where a page can be taken within the limit of the page count, a meta page that passes its check
-- does so still.
abbrev pub KeepsMeta : Paged → Paged → Type 0
KeepsMeta old new = (limit : ℕ) → limit ≤ 2 * old.max_rows + EXTRA_PAGES → CanTake limit old 1
    → IsStoredPage old 0 → IsStoredPage new 0
