-- Changes of one data page, which is at hand.
use Rattle.std.specs.Prelude.{◌≡◌, ℕ, ◌<◌, ◌≤◌, List, length, Some, IsSome}
use Rattle.pm_types.specs.declared.page_id.PageId.{PageId}
use Rattle.pm_data.specs.Rows.{IsRow}
use Rattle.pm_data.specs.DataPages.{DataPage, data_of, with_rows, with_row, without_row, with_links}
use Rattle.pm_data.specs.DataPages.{rows_of, row_at, free_item, HasRoomFor, IsDataPage, empty_page}
use Rattle.pm_meta.specs.declared.slots.MetaSlot.TheVariants.{Pages}
use Rattle.pm_pages.specs.Paged.{Paged, IsInHand}
use Rattle.pm_pages.specs.Edits.{IsNumberIn}
use Rattle.pm_free.specs.declared.edits.Edit.{Edit}
use Rattle.pm_free.specs.declared.edits.Edit.TheVariants.{Before, After, Links, Insert, Remove}

-- page i is at hand and is a data page with these bytes
pub record IsDataIn (p : Paged) (i : ℕ) (page : List ℕ) : Type 0 where
  pub in_hand : IsInHand p i page
  pub well_made : IsDataPage page
  pub size : length page ≡ p.page_size

-- page i is a data page of the partition that is at hand
pub record IsDataAt (p : Paged) (i : ℕ) : Type 0 where
  pub some : 1 ≤ i
  pub below : (n : ℕ) → IsNumberIn p Pages n → i < n
  pub page : List ℕ
  pub is : IsDataIn p i page

-- a page with these bytes can take the change: a row that is put in has room, and one that is taken out is
-- there
abbrev pub CanEdit : List ℕ → List ℕ → Edit → Type 0
CanEdit page row (Before at) = Unit {0}
CanEdit page row (After at) = Unit {0}
CanEdit page row (Links prev next) = Unit {0}
CanEdit page row Insert = IsRow row × HasRoomFor page (length row)
CanEdit page row (Remove item) = IsSome (row_at (rows_of page) item)

-- what the page says then
abbrev pub edited : DataPage → List ℕ → Edit → DataPage
edited page row (Before at) = with_links page at page.next
edited page row (After at) = with_links page page.prev at
edited page row (Links prev next) = with_links page prev next
edited page row Insert = with_rows page (with_row page.rows (free_item page.rows) (Some row))
edited page row (Remove item) = with_rows page (without_row page.rows item)

-- the item of a row that is put in
abbrev pub item_in : DataPage → Edit → ℕ
item_in page (Before at) = 0
item_in page (After at) = 0
item_in page (Links prev next) = 0
item_in page Insert = free_item page.rows
item_in page (Remove item) = 0

-- page i is at hand and can take the change
pub record TakesEdit (p : Paged) (i : ℕ) (row : List ℕ) (edit : Edit) : Type 0 where
  pub some : 1 ≤ i
  pub page : List ℕ
  pub is : IsDataIn p i page
  pub fits : CanEdit page row edit

-- a data page took the change
pub record EditsData (was : List ℕ) (row : List ℕ) (edit : Edit) (now : List ℕ) : Type 0 where
  pub well_made : IsDataPage now
  pub size : length now ≡ length was
  pub says : data_of now ≡ edited (data_of was) row edit

-- page i took the change
pub record EditsDataAt (old new : Paged) (i : ℕ) (row : List ℕ) (edit : Edit) (item : ℕ) : Type 0 where
  pub was : List ℕ
  pub now : List ℕ
  pub before : old.pages i ≡ Some was
  pub after : new.pages i ≡ Some now
  pub edits : EditsData was row edit now
  pub item_is : item ≡ item_in (data_of was) edit

-- page i is at hand and is a data page of this name without rows and neighbours
pub record IsEmptyIn (p : Paged) (i : ℕ) (id : PageId) : Type 0 where
  pub page : List ℕ
  pub is : IsDataIn p i page
  pub says : data_of page ≡ empty_page id
