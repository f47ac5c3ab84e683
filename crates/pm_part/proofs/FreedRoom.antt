-- The room of a data page from which a row was taken out.
use Rattle.std.proofs.Common.{◌≡◌, ℕ, zero, suc, ◌+◌, ◌-◌, ◌*◌, ◌<◌, ◌≤◌, None, Some, Option, List, [], ◌∷◌, ◌++◌, length, take, drop, map, is_none, not, nat_lt, refl, sym, ap, ◌∙◌, inl, inr, arith}
use Rattle.std.specs.Prelude.{if◌then◌else◌}
use Rattle.std.specs.List.{sum_by, suffix_len, range_with_len}
use Rattle.std.proofs.lemmas.Bool.{cases_lt, lt-ltb, le-ltb, false≢true}
use Rattle.std.proofs.lemmas.List.{get_or_past, length-take}
use Rattle.std.proofs.lemmas.List.Sums.{sum_by-append, sum_by-cons, sum_by-take-le, prefix_len_passes}
use Rattle.std.proofs.lemmas.List.FromFn.{sum_by-map-range_with_len_more}
use Rattle.std.proofs.Math.Seq.{split_at}
use Rattle.pm_data.specs.declared.slots.Slot.{Slot}
use Rattle.pm_data.specs.DataPages.{DataPage, count_of, slot_at, row_in, row_bytes, IsSound, IsDataPage, HasRoomFor}
use Rattle.pm_data.specs.DataPages.{room_of, rows_of, row_at, row_len, room_beside, free_item, without_row, with_row}
use Rattle.pm_types.proofs.Unchanged.{length-bytes_at}
use Rattle.pm_data.proofs.RowsByItem.{room_is, length-rows_of, row_in_empty, row_in_live, empty_slot, live_by_len, holds_some}
use Rattle.pm_data.proofs.RowLaws.{length-with_row, row_at-without_row_here}
use Rattle.pm_free.specs.declared.edits.Edit.TheVariants.{Remove}
use Rattle.pm_free.specs.DataEdits.{EditsData}

row_in_len : (page : List ℕ) (slot : Slot) → IsSound page slot → row_len (row_in page slot) ≡ slot.len
row_in_len page slot sound = elim sound [
  | inl empty ↦ ap row_len (row_in_empty page slot empty) ∙ sym (empty_slot slot empty).1
  | inr holds ↦ ap row_len (row_in_live page slot (live_by_len slot (omega (arith, holds_some page slot holds)))) ∙ length-bytes_at page slot.start slot.len holds.within
]

rows_len : (page : List ℕ) (n : ℕ) → ((item : ℕ) → item < n → IsSound page (slot_at page item)) → sum_by row_len (map (λ item. row_in page (slot_at page item)) (range_with_len 0 n)) ≡ row_bytes page n
rows_len page zero each = refl
rows_len page (suc n) each =
    let one : suc n ≡ n + 1 = omega arith in
    ap (λ k. sum_by row_len (map (λ item. row_in page (slot_at page item)) (range_with_len 0 k))) one
    ∙ sum_by-map-range_with_len_more row_len (λ item. row_in page (slot_at page item)) 0 n n (omega arith)
    ∙ (λ t. rows_len page n (λ k lt. each k (omega arith)) t + row_in_len page (slot_at page n) (each n (omega arith)) t)

-- rows and slots are within the page
within : (page : List ℕ) → IsDataPage page → sum_by row_len (rows_of page) + 32 + 4 * length (rows_of page) ≤ length page
within page is = omega (arith, rows_len page (count_of page) is.rows.each, length-rows_of page, is.rows.low, is.rows.full)

pub is_live : (rows : List (Option (List ℕ))) (item : ℕ) (row : List ℕ) → row_at rows item ≡ Some row → item < length rows
is_live rows item row live = elim (cases_lt item (length rows)) [
  | inl lt ↦ lt
  | inr past ↦ absurd (cc (sym (get_or_past rows item None past) ∙ live))
]

-- the rows that are left have so many bytes less at least
less_bytes : (rows : List (Option (List ℕ))) (item : ℕ) (row : List ℕ) → row_at rows item ≡ Some row → sum_by row_len (without_row rows item) + length row ≤ sum_by row_len rows
less_bytes rows item row live =
    let lt = is_live rows item row live in
    let xs = take item rows in
    let one : suc item ≡ item + 1 = omega arith in
    let ys = drop (item + 1) rows in
    let split : rows ≡ xs ++ Some row ∷ ys = split_at rows item None lt ∙ (λ k. xs ++ live k ∷ drop (one k) rows) in
    let all = ap (sum_by row_len) split ∙ sum_by-append row_len xs (Some row ∷ ys) in
    let here = sum_by-cons row_len (Some row) ys in
    let left = sum_by-append row_len xs (None ∷ ys) in
    let gone = sum_by-cons row_len None ys in
    let few = sum_by-take-le row_len (with_row rows item None) (length (with_row rows item None) - suffix_len is_none (with_row rows item None)) in
    omega (arith, all, here, left, gone, few)

-- the item is free then, or one before it
free_before : (rows : List (Option (List ℕ))) (item : ℕ) → item < length rows → free_item (without_row rows item) ≤ item
free_before rows item lt = elim (cases_lt item (free_item (without_row rows item))) [
  | inl more ↦
      let kept = prefix_len_passes (λ (r : Option (List ℕ)). not (is_none r)) (without_row rows item) item None more in
      absurd (false≢true (sym (ap (λ (r : Option (List ℕ)). not (is_none r)) (row_at-without_row_here rows item (omega (arith, lt)))) ∙ kept))
  | inr le ↦ le
]

most_room : (page : List ℕ) → IsDataPage page → room_of page ≤ length page - sum_by row_len (rows_of page) - 32 - 4 * length (rows_of page)
most_room page is =
    let n = length page - sum_by row_len (rows_of page) - 32 - 4 * length (rows_of page) in
    let free = free_item (rows_of page) in
    let beside = room_is page is.rows in
    elim (cases_lt free 254) [
      | inl left ↦ (let e : (if nat_lt free 254 then n else 0) ≡ n = ap (λ b. if b then n else 0) (lt-ltb free 254 left) in omega (arith, beside, e))
      | inr full ↦ (let e : (if nat_lt free 254 then n else 0) ≡ 0 = ap (λ b. if b then n else 0) (le-ltb free 254 full) in omega (arith, beside, e))
    ]

-- a row of this length fits once another one is out
pub fits_after : (was now : List ℕ) (item len : ℕ) (row : List ℕ) → IsDataPage was → EditsData was [] (Remove item) now → row_at (rows_of was) item ≡ Some row → len + 4 ≤ room_of was + length row → HasRoomFor now len
fits_after was now item len row is edits live room =
    let rows = rows_of was in
    let left = without_row rows item in
    let lt = is_live rows item row live in
    let same : rows_of now ≡ left = ap (λ (d : DataPage). d.rows) edits.says in
    let n = length was - sum_by row_len left - 32 - 4 * length left in
    let free : free_item left < 254 = omega (arith, free_before rows item lt, lt, length-rows_of was, is.rows.few) in
    let now_room : room_of now ≡ n = room_is now edits.well_made.rows ∙ (λ k. room_beside (edits.size k) (same k)) ∙ ap (λ b. if b then n else 0) (lt-ltb (free_item left) 254 free) in
    let shorter = length-take (length (with_row rows item None) - suffix_len is_none (with_row rows item None)) (with_row rows item None) in
    let slots = length-with_row rows item None (omega (arith, lt)) in
    omega (arith, now_room, less_bytes rows item row live, shorter, slots, lt, most_room was is, within was is, room)
