-- What calls on a partition changed of its pages.
use Rattle.std.specs.Prelude.{◌≡◌, ℕ, List, [], Some, IsTrue, IsSomeAnd, length}
use Rattle.pm_data.specs.DataPages.{room_of, rows_of, row_at, HasRoomFor, AddsRow}
use Rattle.pm_pages.specs.Paged.{Paged}
use Rattle.pm_pages.specs.Edits.{EditsPages, HasMeta}
use Rattle.pm_free.specs.declared.edits.Edit.TheVariants.{Remove}
use Rattle.pm_free.specs.DataEdits.{EditsData}
use Rattle.pm_part.specs.declared.overwriting.Way.{Way}
use Rattle.pm_part.specs.declared.overwriting.Way.TheVariants.{InPlace, SamePage, Moved}

-- At most so many pages were asked for that weren't before, and no others changed than were asked
-- for. The meta page is at hand.
pub record ChangesPages (T : Type 0) (old new : Paged) (most : ℕ) : Type 0 where
  pub edits : EditsPages T old new (λ j. IsTrue (new.asked j)) most
  pub meta : HasMeta new

-- A row of this length can take the place of an item's so: in place, where that has as many bytes;
-- on the page, where that has room once the item's row is out.
abbrev pub IsWayOn : List ℕ → ℕ → ℕ → Way → Type 0
IsWayOn page item len InPlace = IsSomeAnd (row_at (rows_of page) item) (λ row. length row ≡ len)
IsWayOn page item len SamePage = (now : List ℕ) → EditsData page [] (Remove item) now → HasRoomFor now len
IsWayOn page item len Moved = Unit {0}

-- the row of an item of a page has this length
abbrev pub HasLengthOn : List ℕ → ℕ → ℕ → Type 0
HasLengthOn page item len = IsSomeAnd (row_at (rows_of page) item) (λ row. length row ≡ len)

-- page i is there, and the row of this item of it has this length
pub record HasLengthIn (p : Paged) (i item len : ℕ) : Type 0 where
  pub page : List ℕ
  pub here : p.pages i ≡ Some page
  pub long : HasLengthOn page item len

-- a row can take the place of an item's so, on a page that is at hand
abbrev pub IsWayIn : Paged → ℕ → ℕ → ℕ → Way → Type 0
IsWayIn p i item len way = (page : List ℕ) → p.pages i ≡ Some page → IsWayOn page item len way

-- page i has this row in the place of an item's; all other rows are as they were, and the room is
pub record WritesOver (old new : Paged) (i item : ℕ) (row : List ℕ) : Type 0 where
  pub was : List ℕ
  pub now : List ℕ
  pub before : old.pages i ≡ Some was
  pub after : new.pages i ≡ Some now
  pub adds : AddsRow was now item row
  pub size : length now ≡ length was
  pub room : room_of now ≡ room_of was
