-- A data page.
--
--   offset  size  field
--        0     8  the page's name
--        8     1  the kind, which is 4
--        9     1  zero
--       10     2  count: how many slots there are, at most 254
--       12     4  zero
--       16     4  the index of the page before it in its bucket's chain, 0 where there is none
--       20     4  the index of the page after it
--       24     2  low: where the rows begin
--       26     6  zero
--       32     4  the slot of item 0: start 2, length 2; both 0 where there is no row
--       36     4  the slot of item 1, and so on
--
-- Rows fill the page from `low` to its end. Between the slots and `low` the bytes are free.
use Rattle.std.specs.Prelude.{◌≡◌, ◌≢◌, ℕ, zero, suc, ◌+◌, ◌-◌, ◌*◌, ◌<◌, ◌≤◌, ◌⊎◌, ◌&&◌, ◌==◌, Bool}
use Rattle.std.specs.Prelude.{true, false, if◌then◌else◌, nat_lt, Option, None, Some, List, [], ◌∷◌}
use Rattle.std.specs.Prelude.{◌++◌, length, map, take, drop, slice_index, is_none}
use Rattle.std.specs.List.{range_with_len, slice_index_or, position_or_len, suffix_len, sum_by}
use Rattle.pm_types.specs.PageSizes.{IsPageSize}
use Rattle.pm_types.specs.declared.page_id.PageId.{PageId}
use Rattle.pm_types.specs.declared.head.TheConstants.{KIND_AT}
use Rattle.pm_data.specs.declared.layout.TheConstants.{DATA_KIND, COUNT_AT, PREV_AT, NEXT_AT, LOW_AT}
use Rattle.pm_data.specs.declared.layout.TheConstants.{SLOTS_AT, SLOT_LEN, SLOTS_MAX}
use Rattle.pm_data.specs.declared.slots.Slot.{Slot}
use Rattle.pm_types.specs.Fields.{bytes_at, u16_at, u32_at, u64_at}
use Rattle.pm_data.specs.Rows.{IsRow}

-- how many slots the page has
abbrev pub count_of : List ℕ → ℕ
count_of page = u16_at page COUNT_AT

-- where the rows begin
abbrev pub low_of : List ℕ → ℕ
low_of page = u16_at page LOW_AT

-- the slot of an item
abbrev pub slot_at : List ℕ → ℕ → Slot
slot_at page item = record {
  start = u16_at page (SLOTS_AT + SLOT_LEN * item);
  len = u16_at page (SLOTS_AT + SLOT_LEN * item + 2);
}

-- a slot without a row
abbrev pub is_empty : Slot → Bool
is_empty slot = (slot.start == 0) && (slot.len == 0)

-- where the row of a slot ends
abbrev pub end_of : Slot → ℕ
end_of slot = slot.start + slot.len

-- the row of a slot, if it has one
abbrev pub row_in : List ℕ → Slot → Option (List ℕ)
row_in page slot = if is_empty slot then None else Some (bytes_at page slot.start slot.len)

-- the rows of the page, by item
abbrev pub rows_of : List ℕ → List (Option (List ℕ))
rows_of page = map (λ item. row_in page (slot_at page item)) (range_with_len 0 (count_of page))

-- what a data page says: its name, its neighbours in the chain, and its rows by item
pub record DataPage : Type 0 where
  pub id : PageId
  pub prev : ℕ
  pub next : ℕ
  pub rows : List (Option (List ℕ))

-- what these bytes say
abbrev pub data_of : List ℕ → DataPage
data_of page = record {
  id = record { 0 = u64_at page 0 };
  prev = u32_at page PREV_AT;
  next = u32_at page NEXT_AT;
  rows = rows_of page;
}

-- what it says with these rows, and else as it is
abbrev pub with_rows : DataPage → List (Option (List ℕ)) → DataPage
with_rows page rows = record page { rows = rows }

-- what it says with these neighbours, and else as it is
abbrev pub with_links : DataPage → ℕ → ℕ → DataPage
with_links page prev next = record page { prev = prev; next = next }

-- a data page of this name without rows and neighbours
abbrev pub empty_page : PageId → DataPage
empty_page id = record { id = id; prev = 0; next = 0; rows = [] }

-- the row of an item, if there is one
abbrev pub row_at : List (Option (List ℕ)) → ℕ → Option (List ℕ)
row_at rows item = slice_index_or rows item None

-- the lowest item without a row, or the one after the last
abbrev pub free_item : List (Option (List ℕ)) → ℕ
free_item rows = position_or_len is_none rows

-- the rows with this one, or none, as item, which is at most one after the last
abbrev pub with_row : List (Option (List ℕ)) → ℕ → Option (List ℕ) → List (Option (List ℕ))
with_row rows item row = take item rows ++ row ∷ drop (item + 1) rows

-- the items up to the last that has a row
abbrev pub without_empty_end : List (Option (List ℕ)) → List (Option (List ℕ))
without_empty_end rows = take (length rows - suffix_len is_none rows) rows

-- the rows without that of this item; the others keep their items
abbrev pub without_row : List (Option (List ℕ)) → ℕ → List (Option (List ℕ))
without_row rows item = without_empty_end (with_row rows item None)

-- the room for another row with its slot, in bytes: none where there is no item left
abbrev pub room_of : List ℕ → ℕ
room_of page =
    if nat_lt (free_item (rows_of page)) SLOTS_MAX then low_of page - SLOTS_AT - SLOT_LEN * count_of page else 0

-- how many bytes a row has, none where there is no row
abbrev pub row_len : Option (List ℕ) → ℕ
row_len None = 0
row_len (Some row) = length row

-- the room that a page of this size has beside these rows
abbrev pub room_beside : ℕ → List (Option (List ℕ)) → ℕ
room_beside size rows =
    if nat_lt (free_item rows) SLOTS_MAX then size - sum_by row_len rows - SLOTS_AT - SLOT_LEN * length rows else 0

-- the room takes a row of this length
abbrev pub HasRoomFor : List ℕ → ℕ → Type 0
HasRoomFor page len = len + SLOT_LEN ≤ room_of page

-- the kind and the bytes that are zero
pub record HasHead (page : List ℕ) : Type 0 where
  pub kind : slice_index page KIND_AT ≡ DATA_KIND
  pub zero_9 : slice_index page 9 ≡ 0
  pub zero_12 : u32_at page 12 ≡ 0
  pub zero_26 : u16_at page 26 ≡ 0
  pub zero_28 : u32_at page 28 ≡ 0

-- a slot's row stands between `low` and the page's end
pub record HoldsRow (page : List ℕ) (slot : Slot) : Type 0 where
  pub above : low_of page ≤ slot.start
  pub within : end_of slot ≤ length page
  pub row : IsRow (bytes_at page slot.start slot.len)

-- no byte is of both
abbrev pub AreApart : Slot → Slot → Type 0
AreApart a b = (end_of a ≤ b.start) ⊎ (end_of b ≤ a.start)

-- no byte is of two of the first n slots
abbrev pub AllApart : List ℕ → ℕ → Type 0
AllApart page n = (i j : ℕ) → i < j → j < n → AreApart (slot_at page i) (slot_at page j)

-- the slot is empty or holds a row
abbrev pub IsSound : List ℕ → Slot → Type 0
IsSound page slot = (is_empty slot ≡ true) ⊎ HoldsRow page slot

-- how many bytes the rows of the first n items have
abbrev pub row_bytes : List ℕ → ℕ → ℕ
row_bytes page zero = 0
row_bytes page (suc n) = row_bytes page n + (slot_at page n).len

-- the slots and rows are in order: rows fill the page from `low` to its end, without gap or overlap
pub record HasRows (page : List ℕ) : Type 0 where
  pub few : count_of page ≤ SLOTS_MAX
  pub last : 1 ≤ count_of page → is_empty (slot_at page (count_of page - 1)) ≡ false
  pub low : SLOTS_AT + SLOT_LEN * count_of page ≤ low_of page
  pub each : (item : ℕ) → item < count_of page → IsSound page (slot_at page item)
  pub apart : AllApart page (count_of page)
  pub full : low_of page + row_bytes page (count_of page) ≡ length page

-- a data page, with rows or without
pub record IsDataPage (page : List ℕ) : Type 0 where
  pub size : IsPageSize (length page)
  pub head : HasHead page
  pub rows : HasRows page

-- a data page as it may stand in its file: under its own name, and with a row
pub record IsStoredPage (id : PageId) (page : List ℕ) : Type 0 where
  pub own : (data_of page).id ≡ id
  pub some : 1 ≤ count_of page
  pub well_made : IsDataPage page

-- a data page became one with this row as item; nothing else that it says changed
pub record AddsRow (was now : List ℕ) (item : ℕ) (row : List ℕ) : Type 0 where
  pub well_made : IsDataPage now
  pub says : data_of now ≡ with_rows (data_of was) (with_row (rows_of was) item (Some row))
  pub here : row_at (rows_of now) item ≡ Some row
  pub others : (k : ℕ) → k ≢ item → row_at (rows_of now) k ≡ row_at (rows_of was) k

-- a data page became one without the row of this item; nothing else that it says changed
pub record DropsRow (was now : List ℕ) (item : ℕ) : Type 0 where
  pub well_made : IsDataPage now
  pub says : data_of now ≡ with_rows (data_of was) (without_row (rows_of was) item)
  pub gone : row_at (rows_of now) item ≡ None
  pub others : (k : ℕ) → k ≢ item → row_at (rows_of now) k ≡ row_at (rows_of was) k
