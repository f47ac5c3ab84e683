-- The rows of a page, item by item.
use Rattle.std.proofs.Common.{◌≡◌, ℕ, zero, suc, ◌+◌, ◌-◌, ◌*◌, ◌<◌, ◌≤◌, List, length, get_or, Option, None, Some, ◌⊎◌, true, false, not, is_none, is_some, IsSome, ◌==◌, if◌then◌else◌, refl, sym, ap, subst, ◌∙◌, inl, inr, arith}
use Rattle.std.specs.Prelude.{map, nat_lt}
use Rattle.std.specs.List.{range_with_len, sum_by}
use Rattle.std.proofs.lemmas.Bool.{cases_lt, cases_eq, cases_Bool, false≢true, and_parts, and_right, eqb-true, ne_eqb, lt-ltb, le-ltb}
use Rattle.std.proofs.lemmas.List.{get_or_past}
use Rattle.std.proofs.lemmas.List.Sums.{position_or_len_is, passes_at_first, prefix_len-le-length}
use Rattle.std.proofs.lemmas.List.FromFn.{length-map-range_with_len, get_or-map-range_with_len, sum_by-map-range_with_len_more, fill_by_all}
use Rattle.pm_data.specs.declared.slots.Slot.{Slot}
use Rattle.pm_data.specs.Rows.{IsRow}
use Rattle.pm_types.specs.Fields.{bytes_at}
use Rattle.pm_types.proofs.Unchanged.{length-bytes_at}
use Rattle.pm_data.specs.DataPages.{count_of, low_of, slot_at, is_empty, row_in, rows_of, row_at, row_len, free_item, room_of, room_beside, HasRoomFor, HoldsRow, IsSound, AreApart, HasRows, row_bytes}

pub length-rows_of : (page : List ℕ) → length (rows_of page) ≡ count_of page
length-rows_of page = length-map-range_with_len (λ item. row_in page (slot_at page item)) 0 (count_of page)

pub get_or-rows_of : (page : List ℕ) (item : ℕ) (d : Option (List ℕ)) → item < count_of page → get_or (rows_of page) item d ≡ row_in page (slot_at page item)
get_or-rows_of page item d lt = get_or-map-range_with_len (λ i. row_in page (slot_at page i)) 0 (count_of page) item item d lt (omega arith)

-- rows that are those of each item are the page's
pub rows_by_item : (page : List ℕ) (rows : List (Option (List ℕ))) → length rows ≡ count_of page → ((item : ℕ) → item < count_of page → get_or rows item None ≡ row_in page (slot_at page item)) → rows_of page ≡ rows
rows_by_item page rows len each = sym (fill_by_all (λ item. row_in page (slot_at page item)) rows (count_of page) None len each)

-- where lengths stay, so do their sums
pub row_bytes_same : (was now : List ℕ) (n : ℕ) → ((k : ℕ) → k < n → (slot_at now k).len ≡ (slot_at was k).len) → row_bytes now n ≡ row_bytes was n
row_bytes_same was now zero same = refl
row_bytes_same was now (suc n) same = λ j. row_bytes_same was now n (λ k lt. same k (omega arith)) j + same n (omega arith) j

-- where one length changes, the sum changes by as much
pub row_bytes_one : (was now : List ℕ) (n item : ℕ) → item < n → ((k : ℕ) → k < n → (k ≡ item → ⊥) → (slot_at now k).len ≡ (slot_at was k).len) → row_bytes now n + (slot_at was item).len ≡ row_bytes was n + (slot_at now item).len
row_bytes_one was now zero item lt same = absurd (omega arith)
row_bytes_one was now (suc n) item lt same =
    elim (cases_eq n item) [
      | inl is ↦
          let rest = row_bytes_same was now n (λ k less. same k (omega arith) (λ e. omega arith)) in
          let a : (slot_at was n).len ≡ (slot_at was item).len = ap (λ i. (slot_at was i).len) is in
          let b : (slot_at now n).len ≡ (slot_at now item).len = ap (λ i. (slot_at now i).len) is in
          omega (arith, rest, a, b)
      | inr not ↦
          let rest = row_bytes_one was now n item (omega arith) (λ k less other. same k (omega arith) other) in
          let last = same n (omega arith) not in
          omega (arith, rest, last)
    ]

-- a row whose bytes stand in another page too, at the same place
pub holds_same : (was now : List ℕ) (slot : Slot) → low_of now ≤ slot.start → length now ≡ length was → bytes_at now slot.start slot.len ≡ bytes_at was slot.start slot.len → HoldsRow was slot → HoldsRow now slot
holds_same was now slot above size same holds = record { above = above; within = omega (arith, holds.within); row = subst IsRow (sym same) holds.row }

-- a data page is at least as long as its slots
pub low_within : (page : List ℕ) → HasRows page → low_of page ≤ length page
low_within page rows = omega (arith, rows.full)

-- the row of a slot is the same in two pages where its bytes are, or where it is empty
pub row_in_same : (was now : List ℕ) (slot : Slot) → (is_empty slot ≡ true) ⊎ (bytes_at now slot.start slot.len ≡ bytes_at was slot.start slot.len) → row_in now slot ≡ row_in was slot
row_in_same was now slot how =
    elim how [
      | inl empty ↦ ap (λ b. if b then None else Some (bytes_at now slot.start slot.len)) empty ∙ sym (ap (λ b. if b then None else Some (bytes_at was slot.start slot.len)) empty)
      | inr same ↦ ap (λ (t : List ℕ). if is_empty slot then None else Some t) same
    ]

pub row_in_empty : (page : List ℕ) (slot : Slot) → is_empty slot ≡ true → row_in page slot ≡ None
row_in_empty page slot empty = ap (λ b. if b then None else Some (bytes_at page slot.start slot.len)) empty

pub row_in_live : (page : List ℕ) (slot : Slot) → is_empty slot ≡ false → row_in page slot ≡ Some (bytes_at page slot.start slot.len)
row_in_live page slot live = ap (λ b. if b then None else Some (bytes_at page slot.start slot.len)) live

-- an item has no row exactly where its slot is empty
pub is_none-row_in : (page : List ℕ) (slot : Slot) → is_none (row_in page slot) ≡ is_empty slot
is_none-row_in page slot =
    elim (cases_Bool (is_empty slot)) [
      | inl empty ↦ ap is_none (row_in_empty page slot empty) ∙ sym empty
      | inr live ↦ ap is_none (row_in_live page slot live) ∙ sym live
    ]

pub is_none-rows_of : (page : List ℕ) (item : ℕ) → item < count_of page → is_none (get_or (rows_of page) item None) ≡ is_empty (slot_at page item)
is_none-rows_of page item lt = ap is_none (get_or-rows_of page item None lt) ∙ is_none-row_in page (slot_at page item)

-- the free item is the first whose slot is empty
pub first_free : (page : List ℕ) (n : ℕ) → n ≤ count_of page → ((k : ℕ) → k < n → is_empty (slot_at page k) ≡ false) → (n < count_of page → is_empty (slot_at page n) ≡ true) → free_item (rows_of page) ≡ n
first_free page n le before here =
    position_or_len_is is_none (rows_of page) n None (omega (arith, length-rows_of page))
    (λ k lt. is_none-rows_of page k (omega arith) ∙ before k lt)
    (λ lt. let less : n < count_of page = omega (arith, length-rows_of page) in is_none-rows_of page n less ∙ here less)

-- it is at most the number of slots, and its slot is empty
pub free_item-le : (page : List ℕ) → free_item (rows_of page) ≤ count_of page
free_item-le page = omega (arith, prefix_len-le-length (λ (r : Option (List ℕ)). not (is_none r)) (rows_of page), length-rows_of page)

pub free_slot : (page : List ℕ) → free_item (rows_of page) < count_of page → is_empty (slot_at page (free_item (rows_of page))) ≡ true
free_slot page lt = sym (is_none-rows_of page (free_item (rows_of page)) lt) ∙ passes_at_first is_none (rows_of page) None (omega (arith, length-rows_of page))

pub row_at_past : (page : List ℕ) (item : ℕ) → count_of page ≤ item → row_at (rows_of page) item ≡ None
row_at_past page item le = get_or_past (rows_of page) item None (omega (arith, length-rows_of page))

-- what an empty slot holds, and that a slot with a length isn't one
pub empty_slot : (slot : Slot) → is_empty slot ≡ true → (slot.start ≡ 0) × (slot.len ≡ 0)
empty_slot slot empty = let both = and_parts (slot.start == 0) (slot.len == 0) empty in (eqb-true slot.start 0 both.0, eqb-true slot.len 0 both.1)

pub live_by_len : (slot : Slot) → 1 ≤ slot.len → is_empty slot ≡ false
live_by_len slot some = and_right (slot.start == 0) (slot.len == 0) (ne_eqb slot.len 0 (λ e. omega (arith, e)))

-- where a row fits, there is an item for it, and room for its slot
pub fits_means : (page : List ℕ) (len : ℕ) → HasRoomFor page len → (free_item (rows_of page) < 254) × (32 + 4 * count_of page + 4 + len ≤ low_of page)
fits_means page len fits =
    let room : ℕ = low_of page - 32 - 4 * count_of page in
    let free = free_item (rows_of page) in
    elim (cases_lt free 254) [
      | inl left ↦ let some : len + 4 ≤ room = subst (λ b. len + 4 ≤ (if b then room else 0)) (lt-ltb free 254 left) fits in (left, omega arith)
      | inr full ↦ let none : len + 4 ≤ 0 = subst (λ b. len + 4 ≤ (if b then room else 0)) (le-ltb free 254 full) fits in absurd (omega arith)
    ]

-- an item with a row
pub live_item : (page : List ℕ) (item : ℕ) → IsSome (row_at (rows_of page) item) → (item < count_of page) × (is_empty (slot_at page item) ≡ false)
live_item page item some =
    elim (cases_lt item (count_of page)) [
      | inl lt ↦ (
        lt,
        elim (cases_Bool (is_empty (slot_at page item))) [
          | inl empty ↦ absurd (false≢true (ap is_some (sym (get_or-rows_of page item None lt ∙ row_in_empty page (slot_at page item) empty)) ∙ some))
          | inr live ↦ live
        ],
      )
      | inr past ↦ absurd (false≢true (ap is_some (sym (row_at_past page item past)) ∙ some))
    ]

-- a row has at least its head and one byte of key
pub holds_some : (page : List ℕ) (slot : Slot) → HoldsRow page slot → 5 ≤ slot.len
holds_some page slot holds = omega (arith, length-bytes_at page slot.start slot.len holds.within, holds.row.exact, holds.row.some_key)

-- empty slots at the end add no bytes
pub row_bytes_end : (page : List ℕ) (n kept : ℕ) → kept ≤ n → ((j : ℕ) → kept ≤ j → j < n → (slot_at page j).len ≡ 0) → row_bytes page n ≡ row_bytes page kept
row_bytes_end page zero kept le empty = let none : kept ≡ zero = omega arith in ap (row_bytes page) (sym none)
row_bytes_end page (suc n) kept le empty =
    elim (cases_lt n kept) [
      | inl all ↦ let same : kept ≡ suc n = omega arith in ap (row_bytes page) (sym same)
      | inr more ↦ omega (arith, row_bytes_end page n kept more (λ j ge lt. empty j ge (omega arith)), empty n more (omega arith))
    ]

pub apart_from_empty : (a b : Slot) → is_empty a ≡ true → AreApart a b × AreApart b a
apart_from_empty a b empty = let none = empty_slot a empty in (inl (omega (arith, none.0, none.1)), inr (omega (arith, none.0, none.1)))

-- the bytes of a slot's row are as many as the slot says
row_in_len : (page : List ℕ) (slot : Slot) → IsSound page slot → row_len (row_in page slot) ≡ slot.len
row_in_len page slot sound = elim sound [
  | inl empty ↦ ap row_len (row_in_empty page slot empty) ∙ sym (empty_slot slot empty).1
  | inr holds ↦
      let live = live_by_len slot (omega (arith, holds_some page slot holds)) in
      ap row_len (row_in_live page slot live) ∙ length-bytes_at page slot.start slot.len holds.within
]

rows_len : (page : List ℕ) (n : ℕ) → ((item : ℕ) → item < n → IsSound page (slot_at page item)) → sum_by row_len (map (λ item. row_in page (slot_at page item)) (range_with_len 0 n)) ≡ row_bytes page n
rows_len page zero each = refl
rows_len page (suc n) each =
    let one : suc n ≡ n + 1 = omega arith in
    ap (λ k. sum_by row_len (map (λ item. row_in page (slot_at page item)) (range_with_len 0 k))) one
    ∙ sum_by-map-range_with_len_more row_len (λ item. row_in page (slot_at page item)) 0 n n (omega arith)
    ∙ (λ t. rows_len page n (λ k lt. each k (omega arith)) t + row_in_len page (slot_at page n) (each n (omega arith)) t)

-- the room is what is left beside the rows
pub room_is : (page : List ℕ) → HasRows page → room_of page ≡ room_beside (length page) (rows_of page)
room_is page rows =
    let bytes = rows_len page (count_of page) rows.each in
    let count = length-rows_of page in
    let left : low_of page - 32 - 4 * count_of page ≡ length page - sum_by row_len (rows_of page) - 32 - 4 * length (rows_of page) = omega (arith, bytes, count, rows.full) in
    ap (λ n. if nat_lt (free_item (rows_of page)) 254 then n else 0) left
