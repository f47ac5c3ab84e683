-- Copies of pages.
use Rattle.std.specs.Prelude.{◌≡◌, ◌≢◌, ℕ, suc, ◌+◌, ◌==◌, if◌then◌else◌, List, [], ◌∷◌, length}
use Rattle.std.specs.Prelude.{Option, Some, None}
use Rattle.pm_types.specs.declared.page_id.PageId.{PageId}
use Rattle.pm_flush.specs.declared.copies.PageCopy.{PageCopy}

-- a page that is copied, and its bytes
pub record CopiedPage : Type 0 where
  pub page : PageId
  pub bytes : List ℕ

-- the pages that are copied, and how many there is room for
pub record Copies : Type 0 where
  pub pages : List CopiedPage
  pub room : ℕ

-- what contracts see of a copy
abbrev pub copied : PageCopy → CopiedPage
copied copy = record { page = copy.page; bytes = copy.bytes.items }

-- the bytes of a page's copy, none where it isn't copied
abbrev pub copy_of : List CopiedPage → PageId → Option (List ℕ)
copy_of [] page = None
copy_of (copy ∷ copies) page = if copy.page.0 == page.0 then Some copy.bytes else copy_of copies page

-- where the copy of a page stands, or how many there are
abbrev pub place_of : List PageCopy → PageId → ℕ
place_of [] page = 0
place_of (copy ∷ copies) page = if copy.page.0 == page.0 then 0 else suc (place_of copies page)

-- no page is copied twice
abbrev pub AreOnce : List CopiedPage → Type 0
AreOnce [] = Unit {0}
AreOnce (copy ∷ copies) = (copy_of copies copy.page ≡ None) × AreOnce copies

-- one more page is copied
pub record AddsCopy (old new : Copies) (page : PageId) (bytes : List ℕ) : Type 0 where
  pub here : copy_of new.pages page ≡ Some bytes
  pub others : (other : PageId) → other ≢ page → copy_of new.pages other ≡ copy_of old.pages other
  pub count : length new.pages ≡ length old.pages + 1
  pub room : new.room ≡ old.room

-- a page is copied no longer
pub record RemovesCopy (old new : Copies) (page : PageId) : Type 0 where
  pub gone : copy_of new.pages page ≡ None
  pub others : (other : PageId) → other ≢ page → copy_of new.pages other ≡ copy_of old.pages other
  pub room : new.room ≡ old.room
