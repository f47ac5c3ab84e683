-- Pages that pass their checks before a change and after it.
use Rattle.std.specs.Prelude.{◌≡◌, ℕ, List, Some}
use Rattle.pm_pages.specs.Rows.{Partition}
use Rattle.pm_pages.specs.Passes.{PassesAt}

-- page i is there and passes its check, in a store with pages of this size and so many rows in a
-- partition at most
abbrev pub IsStoredAt : ℕ → ℕ → ℕ → Partition → ℕ → Type 0
IsStoredAt page_size max_rows part pages i =
    (page : List ℕ) × (pages i ≡ Some page) × PassesAt page_size max_rows part i page

-- page i passes its check still, if it did before
abbrev pub KeepsPassing : Partition → Partition → ℕ → Type 0
KeepsPassing old new i = (page_size max_rows part : ℕ) → IsStoredAt page_size max_rows part old i
    → IsStoredAt page_size max_rows part new i
