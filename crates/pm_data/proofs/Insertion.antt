-- A row put into a page: what the bytes then say.
use Rattle.std.proofs.Common.{◌≡◌, ℕ, suc, ◌+◌, ◌-◌, ◌*◌, ◌<◌, ◌≤◌, ◌⊎◌, true, false, None, Some, List, length, get_or, max, sym, ap, subst, ◌∙◌, inl, inr, arith, Option}
use Rattle.std.proofs.lemmas.Bool.{cases_lt, cases_eq}
use Rattle.pm_types.specs.PageSizes.{IsPageSize}
use Rattle.pm_types.specs.Spans.{IsInSpan, span_of}
use Rattle.pm_types.specs.Pages.{SameOutside}
use Rattle.pm_types.proofs.PageSizeBounds.{page_size_bounds}
use Rattle.pm_types.proofs.Changes.{outside_then}
use Rattle.pm_data.specs.declared.slots.Slot.{Slot}
use Rattle.pm_types.specs.Fields.{bytes_at}
use Rattle.pm_data.specs.Rows.{IsRow}
use Rattle.pm_data.specs.DataPages.{row_at, count_of, low_of, slot_at, is_empty, row_in, rows_of, free_item, with_row, HoldsRow, AreApart, IsDataPage, AddsRow, row_bytes}
use Rattle.pm_data.proofs.RowLaws.{length-with_row, row_at-with_row_here, row_at-with_row_other}
use Rattle.pm_types.proofs.Unchanged.{bytes_same, u16_same, u32_same, u64_same}
use Rattle.pm_data.proofs.SlotsKept.{slot_same}
use Rattle.pm_data.proofs.RowsByItem.{rows_by_item, length-rows_of, get_or-rows_of, row_bytes_same, row_bytes_one, holds_same, low_within, row_in_same, row_in_live, free_item-le, free_slot, empty_slot, live_by_len}

-- the bytes that a row and its slot are written over: the row, the slot, where the rows begin, the count
abbrev IsWritten : ℕ → ℕ → ℕ → ℕ → Type 0
IsWritten start low item k = (IsInSpan (span_of start (low - start)) k ⊎ IsInSpan (span_of (32 + 4 * item) 4) k) ⊎ (IsInSpan (span_of 24 2) k ⊎ IsInSpan (span_of 10 2) k)

-- what was written
pub record IsPlaced (was now row : List ℕ) (item start : ℕ) : Type 0 where
  pub outside : SameOutside (IsWritten start (low_of was) item) was now
  pub count : count_of now ≡ max (count_of was) (item + 1)
  pub low : low_of now ≡ start
  pub slot : slot_at now item ≡ record { start = start; len = length row }
  pub bytes : bytes_at now start (length row) ≡ row

-- what the writes one after the other make
pub placed : (p0 p1 p2 p3 p4 row : List ℕ) (item start : ℕ) → start + length row ≡ low_of p0 → 32 + 4 * item + 4 ≤ start → low_of p0 ≤ length p0 →
    SameOutside (IsInSpan (span_of start (length row))) p0 p1 → bytes_at p1 start (length row) ≡ row →
    SameOutside (IsInSpan (span_of (32 + 4 * item) 4)) p1 p2 → slot_at p2 item ≡ record { start = start; len = length row } →
    SameOutside (IsInSpan (span_of 24 2)) p2 p3 → low_of p3 ≡ start →
    SameOutside (IsInSpan (span_of 10 2)) p3 p4 → count_of p4 ≡ max (count_of p3) (item + 1) → IsPlaced p0 p4 row item start
placed p0 p1 p2 p3 p4 row item start below above within o1 row_is o2 slot_is o3 low_is o4 count_is =
    let W = IsWritten start (low_of p0) item in
    let size1 : length p1 ≡ length p0 = o1.size in
    let size2 : length p2 ≡ length p0 = o2.size ∙ size1 in
    let size3 : length p3 ≡ length p0 = o3.size ∙ size2 in
    let first = outside_then (IsInSpan (span_of start (length row))) (IsInSpan (span_of (32 + 4 * item) 4)) W p0 p1 p2 o1 o2 (λ k h. inl (inl (h.0, omega (arith, h.1)))) (λ k h. inl (inr h)) in
    let second = outside_then (IsInSpan (span_of 24 2)) (IsInSpan (span_of 10 2)) W p2 p3 p4 o3 o4 (λ k h. inr (inl h)) (λ k h. inr (inr h)) in
    let count : count_of p3 ≡ count_of p0 =
    u16_same (IsInSpan (span_of 24 2)) p2 p3 10 o3 (omega arith) (λ k ge lt h. omega (arith, h.0))
    ∙ u16_same (IsInSpan (span_of (32 + 4 * item) 4)) p1 p2 10 o2 (omega arith) (λ k ge lt h. omega (arith, h.0))
    ∙ u16_same (IsInSpan (span_of start (length row))) p0 p1 10 o1 (omega arith) (λ k ge lt h. omega (arith, h.0)) in
    record {
      outside = outside_then W W W p0 p2 p4 first second (λ k h. h) (λ k h. h);
      count = count_is ∙ ap (λ n. max n (item + 1)) count;
      low = u16_same (IsInSpan (span_of 10 2)) p3 p4 24 o4 (omega arith) (λ k ge lt h. omega (arith, h.1)) ∙ low_is;
      slot =
          slot_same (IsInSpan (span_of 10 2)) p3 p4 item o4 (omega arith) (λ k ge lt h. omega (arith, h.1))
          ∙ slot_same (IsInSpan (span_of 24 2)) p2 p3 item o3 (omega arith) (λ k ge lt h. omega (arith, h.1)) ∙ slot_is;
      bytes =
          bytes_same (IsInSpan (span_of 10 2)) p3 p4 start (length row) o4 (omega arith) (λ k ge lt h. omega (arith, h.1))
          ∙ bytes_same (IsInSpan (span_of 24 2)) p2 p3 start (length row) o3 (omega arith) (λ k ge lt h. omega (arith, h.1))
          ∙ bytes_same (IsInSpan (span_of (32 + 4 * item) 4)) p1 p2 start (length row) o2 (omega arith) (λ k ge lt h. omega (arith, h.1)) ∙ row_is;
    }

-- where nothing was written: in the head but for two fields, in the other slots, and where rows were
head_away : (start low item k : ℕ) → 32 ≤ start → k < 32 → (k < 10) ⊎ (12 ≤ k) → (k < 24) ⊎ (26 ≤ k) → IsWritten start low item k → ⊥
head_away start low item k above lt count from h = grind arith

slot_away : (start low item other k : ℕ) → 32 + 4 * other + 4 ≤ start → (other ≡ item → ⊥) → 32 + 4 * other ≤ k → k < 32 + 4 * other + 4 → IsWritten start low item k → ⊥
slot_away start low item other k above not ge lt h = elim h [ inl one ↦ elim one [ inl row ↦ omega (arith, row.0) | inr slot ↦ not (omega (arith, slot.0, slot.1)) ] | inr two ↦ elim two [ inl low' ↦ omega (arith, low'.1) | inr count ↦ omega (arith, count.1) ] ]

row_away : (start low item k : ℕ) → 32 + 4 * item + 4 ≤ start → start ≤ low → low ≤ k → IsWritten start low item k → ⊥
row_away start low item k above le ge h = elim h [ inl one ↦ elim one [ inl row ↦ omega (arith, row.1) | inr slot ↦ omega (arith, slot.1) ] | inr two ↦ elim two [ inl low' ↦ omega (arith, low'.1) | inr count ↦ omega (arith, count.1) ] ]

module _ (was now row : List ℕ) (item start : ℕ) (page : IsDataPage was) (is_row : IsRow row) (free : item ≡ free_item (rows_of was)) (few : item < 254)
    (below : start + length row ≡ low_of was) (room : 32 + 4 * count_of was + 4 ≤ start) (slot_room : 32 + 4 * item + 4 ≤ start) (placed : IsPlaced was now row item start) where
  abbrev W : ℕ → Type 0
  W = IsWritten start (low_of was) item

  low_le : low_of was ≤ length was
  low_le = low_within was page.rows

  item_le : item ≤ count_of was
  item_le = omega (arith, free, free_item-le was)

  some_row : 5 ≤ length row
  some_row = omega (arith, is_row.exact, is_row.some_key)

  -- the slots of other items
  other_slot : (j : ℕ) → j < count_of was → (j ≡ item → ⊥) → slot_at now j ≡ slot_at was j
  other_slot j lt not = slot_same W was now j placed.outside (omega (arith, low_le, room, below)) (λ k ge less. slot_away start (low_of was) item j k (omega (arith, room)) not ge less)

  other_bytes : (j : ℕ) → j < count_of was → HoldsRow was (slot_at was j) → bytes_at now (slot_at was j).start (slot_at was j).len ≡ bytes_at was (slot_at was j).start (slot_at was j).len
  other_bytes j lt holds = bytes_same W was now (slot_at was j).start (slot_at was j).len placed.outside holds.within
      (λ k ge less. row_away start (low_of was) item k slot_room (omega (arith, below)) (omega (arith, ge, holds.above)))

  -- which items there are
  each_item : (j : ℕ) → j < count_of now → (j ≡ item) ⊎ ((j ≡ item → ⊥) × (j < count_of was))
  each_item j lt = elim (cases_eq j item) [ inl same ↦ inl same | inr other ↦ inr (other, omega (arith, lt, placed.count, item_le, other)) ]

  here_live : is_empty (slot_at now item) ≡ false
  here_live = ap is_empty placed.slot ∙ live_by_len (record { start = start; len = length row }) (omega (arith, some_row))

  here_holds : HoldsRow now (slot_at now item)
  here_holds = subst (λ s. HoldsRow now s) (sym placed.slot) (record { above = omega (arith, placed.low); within = omega (arith, below, low_le, placed.outside.size); row = subst IsRow (sym placed.bytes) is_row })

  other_holds : (j : ℕ) → j < count_of was → (j ≡ item → ⊥) → (is_empty (slot_at now j) ≡ true) ⊎ HoldsRow now (slot_at now j)
  other_holds j lt not = elim (page.rows.each j lt) [
    | inl empty ↦ inl (ap is_empty (other_slot j lt not) ∙ empty)
    | inr holds ↦ inr (subst (λ s. HoldsRow now s) (sym (other_slot j lt not)) (holds_same was now (slot_at was j) (omega (arith, placed.low, holds.above, below)) placed.outside.size (other_bytes j lt holds) holds))
  ]

  -- the new row is apart from each other
  here_apart : (j : ℕ) → j < count_of was → (j ≡ item → ⊥) → AreApart (slot_at now item) (slot_at now j) × AreApart (slot_at now j) (slot_at now item)
  here_apart j lt not =
      let new : Slot = record { start = start; len = length row } in
      let both : AreApart new (slot_at was j) × AreApart (slot_at was j) new = elim (page.rows.each j lt) [
        | inl empty ↦ let zero_slot = empty_slot (slot_at was j) empty in (inr (omega (arith, zero_slot.0, zero_slot.1)), inl (omega (arith, zero_slot.0, zero_slot.1)))
        | inr holds ↦ (inl (omega (arith, holds.above, below)), inr (omega (arith, holds.above, below)))
      ] in
      subst (λ (p : Slot × Slot). AreApart p.0 p.1 × AreApart p.1 p.0) {x = (new, slot_at was j)} {y = (slot_at now item, slot_at now j)} (λ t. (sym placed.slot t, sym (other_slot j lt not) t)) both

  all_apart : (i j : ℕ) → i < j → j < count_of now → AreApart (slot_at now i) (slot_at now j)
  all_apart i j less lt =
      elim (each_item i (omega arith)) [
        | inl i_here ↦ elim (each_item j lt) [
          | inl j_here ↦ absurd (omega (arith, i_here, j_here))
          | inr other ↦ subst (λ n. AreApart (slot_at now n) (slot_at now j)) (sym i_here) (here_apart j other.1 other.0).0
        ]
        | inr i_other ↦ elim (each_item j lt) [
          | inl j_here ↦ subst (λ n. AreApart (slot_at now i) (slot_at now n)) (sym j_here) (here_apart i i_other.1 i_other.0).1
          | inr other ↦ subst (λ (p : Slot × Slot). AreApart p.0 p.1) {x = (slot_at was i, slot_at was j)} {y = (slot_at now i, slot_at now j)} (λ t. (sym (other_slot i i_other.1 i_other.0) t, sym (other_slot j other.1 other.0) t)) (page.rows.apart i j less other.1)
        ]
      ]

  -- the last slot has a row
  last_live : 1 ≤ count_of now → is_empty (slot_at now (count_of now - 1)) ≡ false
  last_live some =
      elim (each_item (count_of now - 1) (omega arith)) [
        | inl here ↦ ap (λ n. is_empty (slot_at now n)) here ∙ here_live
        | inr other ↦
            let same : count_of now ≡ count_of was = omega (arith, placed.count, other.1, some) in
            ap is_empty (other_slot (count_of now - 1) other.1 other.0) ∙ ap (λ n. is_empty (slot_at was (n - 1))) same ∙ page.rows.last (omega (arith, same))
      ]

  -- the rows have as many bytes more as the new one has
  all_bytes : row_bytes now (count_of now) ≡ row_bytes was (count_of was) + length row
  all_bytes =
      let here : (slot_at now item).len ≡ length row = ap (λ (s : Slot). s.len) placed.slot in
      elim (cases_lt item (count_of was)) [
        | inl lt ↦
            let same : count_of now ≡ count_of was = omega (arith, placed.count) in
            let empty = empty_slot (slot_at was item) (ap (λ n. is_empty (slot_at was n)) free ∙ free_slot was (omega (arith, free))) in
            let one = row_bytes_one was now (count_of was) item lt (λ k less not. ap (λ (s : Slot). s.len) (other_slot k less not)) in
            ap (row_bytes now) same ∙ omega (arith, one, empty.1, here)
        | inr ge ↦
            let at_end : item ≡ count_of was = omega (arith, item_le) in
            let more : count_of now ≡ suc (count_of was) = omega (arith, placed.count, at_end) in
            let rest = row_bytes_same was now (count_of was) (λ k less. ap (λ (s : Slot). s.len) (other_slot k less (λ e. omega (arith, e, at_end)))) in
            let last : (slot_at now (count_of was)).len ≡ length row = ap (λ n. (slot_at now n).len) (sym at_end) ∙ here in
            ap (row_bytes now) more ∙ (λ t. rest t + last t)
      ]

  head_field : (k : ℕ) → k < 32 → (k < 10) ⊎ (12 ≤ k) → (k < 24) ⊎ (26 ≤ k) → W k → ⊥
  head_field k lt count from = head_away start (low_of was) item k (omega (arith, slot_room)) lt count from

  long : 32 ≤ length was
  long = omega (arith, (page_size_bounds (length was) page.size).0)

  rows_now : rows_of now ≡ with_row (rows_of was) item (Some row)
  rows_now =
      let there : item ≤ length (rows_of was) = omega (arith, length-rows_of was, item_le) in
      rows_by_item now (with_row (rows_of was) item (Some row)) (length-with_row (rows_of was) item (Some row) there ∙ ap (λ n. max n (item + 1)) (length-rows_of was) ∙ sym placed.count)
      (λ j lt. elim (each_item j lt) [
        | inl here ↦
            ap (λ n. get_or (with_row (rows_of was) item (Some row)) n None) here ∙ row_at-with_row_here (rows_of was) item (Some row) there
            ∙ sym (row_in_live now (slot_at now item) here_live ∙ ap Some (ap (λ (s : Slot). bytes_at now s.start s.len) placed.slot ∙ placed.bytes)) ∙ ap (λ n. row_in now (slot_at now n)) (sym here)
        | inr other ↦
            row_at-with_row_other (rows_of was) item j (Some row) there other.0 ∙ get_or-rows_of was j None other.1
            ∙ sym (row_in_same was now (slot_at was j) (elim (page.rows.each j other.1) [ inl empty ↦ inl empty | inr holds ↦ inr (other_bytes j other.1 holds) ]))
            ∙ ap (row_in now) (sym (other_slot j other.1 other.0))
      ])

  pub another_row : AddsRow was now item row
  another_row = record {
    well_made = record {
      size = subst IsPageSize (sym placed.outside.size) page.size;
      head = record {
        kind = placed.outside.bytes 8 (head_field 8 (omega arith) (inl (omega arith)) (inl (omega arith))) ∙ page.head.kind;
        zero_9 = placed.outside.bytes 9 (head_field 9 (omega arith) (inl (omega arith)) (inl (omega arith))) ∙ page.head.zero_9;
        zero_12 = u32_same W was now 12 placed.outside (omega (arith, long)) (λ k ge lt. head_field k (omega arith) (inr ge) (inl (omega arith))) ∙ page.head.zero_12;
        zero_26 = u16_same W was now 26 placed.outside (omega (arith, long)) (λ k ge lt. head_field k (omega arith) (inr (omega arith)) (inr ge)) ∙ page.head.zero_26;
        zero_28 = u32_same W was now 28 placed.outside (omega (arith, long)) (λ k ge lt. head_field k (omega arith) (inr (omega arith)) (inr (omega arith))) ∙ page.head.zero_28;
      };
      rows = record {
        few = omega (arith, placed.count, page.rows.few, few);
        last = last_live;
        low = omega (arith, placed.count, placed.low, room, slot_room);
        each = λ j lt. elim (each_item j lt) [ inl here ↦ inr (subst (λ n. HoldsRow now (slot_at now n)) (sym here) here_holds) | inr other ↦ other_holds j other.1 other.0 ];
        apart = all_apart;
        full = omega (arith, placed.low, all_bytes, below, page.rows.full, placed.outside.size);
      };
    };
    says = λ t. record {
      id = record { 0 = u64_same W was now 0 placed.outside (omega (arith, long)) (λ k ge lt. head_field k (omega arith) (inl (omega arith)) (inl (omega arith))) t };
      prev = u32_same W was now 16 placed.outside (omega (arith, long)) (λ k ge lt. head_field k (omega arith) (inr (omega arith)) (inl (omega arith))) t;
      next = u32_same W was now 20 placed.outside (omega (arith, long)) (λ k ge lt. head_field k (omega arith) (inr (omega arith)) (inl (omega arith))) t;
      rows = rows_now t;
    };
    here = ap (λ (rows : List (Option (List ℕ))). row_at rows item) rows_now ∙ row_at-with_row_here (rows_of was) item (Some row) (omega (arith, length-rows_of was, item_le));
    others = λ k not. ap (λ (rows : List (Option (List ℕ))). row_at rows k) rows_now ∙ row_at-with_row_other (rows_of was) item k (Some row) (omega (arith, length-rows_of was, item_le)) not;
  }
