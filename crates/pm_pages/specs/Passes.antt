-- The check of a page that was read.
use Rattle.std.specs.Prelude.{◌≡◌, ℕ, zero, suc, ◌⊎◌, List, length}
use Rattle.pm_types.specs.declared.page_id.PageId.{PageId}
use Rattle.pm_types.specs.Ids.{page_id}
use Rattle.pm_data.specs.DataPages.{IsStoredPage}
use Rattle.pm_btpage.specs.Stored.{IsStoredIndex}
use Rattle.pm_meta.specs.MetaPages.{IsStoredMeta, IsStoredReuse}

-- a page that may stand in its file, in a store with pages of this size and so many rows in a
-- partition at most: a meta page, a page of a tree, a data page or a reuse page, each under its own
-- name and in its own form
pub record Passes (page_size max_rows : ℕ) (id : PageId) (page : List ℕ) : Type 0 where
  pub size : length page ≡ page_size
  pub kind : IsStoredMeta id max_rows page ⊎ IsStoredIndex id page ⊎ IsStoredPage id page
      ⊎ IsStoredReuse id page

-- a meta page that may stand in its file
pub record PassesAsMeta (page_size max_rows : ℕ) (id : PageId) (page : List ℕ) : Type 0 where
  pub size : length page ≡ page_size
  pub stored : IsStoredMeta id max_rows page

-- the bytes may stand as page i of this partition: the first page is a meta page, and any other is
-- of one of the kinds
abbrev pub PassesAt : ℕ → ℕ → ℕ → ℕ → List ℕ → Type 0
PassesAt page_size max_rows part zero page = PassesAsMeta page_size max_rows (page_id part 0) page
PassesAt page_size max_rows part (suc i) page = Passes page_size max_rows (page_id part (suc i)) page
