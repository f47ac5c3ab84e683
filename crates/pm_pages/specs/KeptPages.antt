-- What calls on the pages of a partition leave of them, besides their edits.
use Rattle.std.specs.Prelude.{◌≡◌, ◌⊎◌, ℕ, List, length, Option, None, Some, IsSomeAnd}
use Rattle.pm_types.specs.Spans.{Coverage}
use Rattle.pm_pages.specs.Asked.{IsPatchFor}
use Rattle.pm_pages.specs.Paged.{Paged, IsWhole}

-- a page that is there, and has this size
pub record IsPageOf (size : ℕ) (page : Option (List ℕ)) : Type 0 where
  pub bytes : List ℕ
  pub is : page ≡ Some bytes
  pub sized : length bytes ≡ size

-- what an operation leaves of a partition's pages besides its edits: a page that was there still is; one that
-- comes was made, so that its patch is the whole page; and each patch is that of a page of this size
pub record KeepsPages (size : ℕ) (old new : Paged) : Type 0 where
  pub size_is : old.page_size ≡ size
  pub sized : (index : ℕ) (was : List ℕ) → old.pages index ≡ Some was → length was ≡ size
  pub stays : (index : ℕ) (was : List ℕ) → old.pages index ≡ Some was → IsPageOf size (new.pages index)
  pub comes : (index : ℕ) → old.pages index ≡ None
      → ((new.pages index ≡ None) × (new.patch index ≡ None))
      ⊎ (IsPageOf size (new.pages index) × IsSomeAnd (new.patch index) (IsWhole size))
  pub patches : (index : ℕ) (patch : Coverage) → new.patch index ≡ Some patch → IsPatchFor size patch
