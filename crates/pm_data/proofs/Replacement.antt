-- A row written over another one of as many bytes: what the bytes then say.
use Rattle.std.proofs.Common.{◌≡◌, ℕ, ◌+◌, ◌-◌, ◌*◌, ◌<◌, ◌≤◌, true, false, not, None, Some, List, length, get_or, is_none, IsSome, if◌then◌else◌, refl, sym, ap, subst, ◌∙◌, inl, inr, arith, Option}
use Rattle.std.specs.Prelude.{nat_lt, IsSomeAnd}
use Rattle.std.proofs.lemmas.Bool.{cases_lt, cases_eq, cases_Bool, false≢true}
use Rattle.std.proofs.lemmas.List.Sums.{prefix_len_passes}
use Rattle.pm_types.specs.PageSizes.{IsPageSize}
use Rattle.pm_types.specs.Spans.{IsInSpan, span_of}
use Rattle.pm_types.specs.Pages.{SameOutside}
use Rattle.pm_types.specs.Fields.{bytes_at}
use Rattle.pm_types.proofs.Unchanged.{bytes_same, u16_same, u32_same, u64_same, length-bytes_at}
use Rattle.pm_data.specs.declared.slots.Slot.{Slot}
use Rattle.pm_data.specs.Rows.{IsRow}
use Rattle.pm_data.specs.DataPages.{row_at, count_of, low_of, slot_at, is_empty, row_in, rows_of, room_of, free_item, with_row, HoldsRow, IsSound, AreApart, IsDataPage, AddsRow, row_bytes}
use Rattle.pm_data.proofs.RowLaws.{length-with_row, row_at-with_row_here, row_at-with_row_other}
use Rattle.pm_data.proofs.SlotsKept.{slot_same}
use Rattle.pm_data.proofs.RowsByItem.{rows_by_item, length-rows_of, get_or-rows_of, row_bytes_same, holds_same, holds_some, row_in_same, row_in_live, live_by_len, live_item, first_free, free_item-le, free_slot, is_none-rows_of}

some_of : (o : Option (List ℕ)) (P : List ℕ → Type 0) → IsSomeAnd o P → IsSome o
some_of None P has = absurd has
some_of (Some bytes) P has = refl

-- the slot of an item that has a row of this length
pub held_at : (page : List ℕ) (item len : ℕ) → IsDataPage page → IsSomeAnd (row_at (rows_of page) item) (λ was. length was ≡ len) → (item < count_of page) × HoldsRow page (slot_at page item) × ((slot_at page item).len ≡ len)
held_at page item len is_page alike =
    let live = live_item page item (some_of (row_at (rows_of page) item) (λ was. length was ≡ len) alike) in
    let slot = slot_at page item in
    let holds : HoldsRow page slot = elim (is_page.rows.each item live.0) [ inl empty ↦ absurd (false≢true (sym live.1 ∙ empty)) | inr held ↦ held ] in
    let here : length (bytes_at page slot.start slot.len) ≡ len = subst (λ o. IsSomeAnd o (λ (was : List ℕ). length was ≡ len)) (get_or-rows_of page item None live.0 ∙ row_in_live page slot live.1) alike in
    (live.0, holds, sym (length-bytes_at page slot.start slot.len holds.within) ∙ here)

module _ (was now row : List ℕ) (item : ℕ) (page : IsDataPage was) (is_row : IsRow row) (lt : item < count_of was) (holds : HoldsRow was (slot_at was item))
    (alike : (slot_at was item).len ≡ length row) (outside : SameOutside (IsInSpan (span_of (slot_at was item).start (length row))) was now)
    (bytes : bytes_at now (slot_at was item).start (length row) ≡ row) where
  abbrev slot : Slot
  slot = slot_at was item

  abbrev W : ℕ → Type 0
  W = IsInSpan (span_of slot.start (length row))

  -- the head and the slots stand before the row
  above : 32 + 4 * count_of was ≤ slot.start
  above = omega (arith, page.rows.low, holds.above)

  within : slot.start + length row ≤ length was
  within = omega (arith, holds.within, alike)

  head_away : (k : ℕ) → k < 32 → W k → ⊥
  head_away k less h = omega (arith, h.0, above, less)

  same_slot : (j : ℕ) → j < count_of was → slot_at now j ≡ slot_at was j
  same_slot j less = slot_same W was now j outside (omega (arith, within, above, less)) (λ k ge lower h. omega (arith, h.0, above, lower, less))

  count : count_of now ≡ count_of was
  count = u16_same W was now 10 outside (omega (arith, within, above)) (λ k ge lower h. head_away k (omega (arith, lower)) h)

  low : low_of now ≡ low_of was
  low = u16_same W was now 24 outside (omega (arith, within, above)) (λ k ge lower h. head_away k (omega (arith, lower)) h)

  -- the row of the item
  live : is_empty slot ≡ false
  live = live_by_len slot (omega (arith, holds_some was slot holds))

  here_bytes : bytes_at now slot.start slot.len ≡ row
  here_bytes = ap (bytes_at now slot.start) alike ∙ bytes

  here_holds : HoldsRow now (slot_at now item)
  here_holds = subst (λ s. HoldsRow now s) (sym (same_slot item lt)) (record { above = omega (arith, low, holds.above); within = omega (arith, holds.within, outside.size); row = subst IsRow (sym here_bytes) is_row })

  -- the others are apart from it
  apart : (j : ℕ) → j < count_of was → (j ≡ item → ⊥) → AreApart (slot_at was j) slot
  apart j less other = elim (cases_lt j item) [
    | inl before ↦ page.rows.apart j item before lt
    | inr ge ↦ elim (page.rows.apart item j (omega (arith, ge, other)) less) [ inl left ↦ inr left | inr right ↦ inl right ]
  ]

  other_bytes : (j : ℕ) → j < count_of was → (j ≡ item → ⊥) → HoldsRow was (slot_at was j) → bytes_at now (slot_at was j).start (slot_at was j).len ≡ bytes_at was (slot_at was j).start (slot_at was j).len
  other_bytes j less other held = bytes_same W was now (slot_at was j).start (slot_at was j).len outside held.within
      (λ k ge lower h. elim (apart j less other) [ inl left ↦ omega (arith, left, h.0, lower) | inr right ↦ omega (arith, right, h.1, ge, alike) ])

  each : (j : ℕ) → j < count_of was → IsSound now (slot_at now j)
  each j less = elim (cases_eq j item) [
    | inl here ↦ inr (subst (λ n. HoldsRow now (slot_at now n)) (sym here) here_holds)
    | inr other ↦ elim (page.rows.each j less) [
      | inl empty ↦ inl (ap is_empty (same_slot j less) ∙ empty)
      | inr held ↦ inr (subst (λ s. HoldsRow now s) (sym (same_slot j less)) (holds_same was now (slot_at was j) (omega (arith, low, held.above)) outside.size (other_bytes j less other held) held))
    ]
  ]

  all_apart : (i j : ℕ) → i < j → j < count_of now → AreApart (slot_at now i) (slot_at now j)
  all_apart i j less lower =
      let last : j < count_of was = omega (arith, lower, count) in
      subst (λ (p : Slot × Slot). AreApart p.0 p.1) {x = (slot_at was i, slot_at was j)} {y = (slot_at now i, slot_at now j)} (λ t. (sym (same_slot i (omega (arith, less, last))) t, sym (same_slot j last) t)) (page.rows.apart i j less last)

  all_bytes : row_bytes now (count_of now) ≡ row_bytes was (count_of was)
  all_bytes = ap (row_bytes now) count ∙ row_bytes_same was now (count_of was) (λ k less. ap (λ (s : Slot). s.len) (same_slot k less))

  there : item ≤ length (rows_of was)
  there = omega (arith, length-rows_of was, lt)

  rows_len : length (with_row (rows_of was) item (Some row)) ≡ count_of now
  rows_len = omega (arith, length-with_row (rows_of was) item (Some row) there, length-rows_of was, lt, count)

  rows_now : rows_of now ≡ with_row (rows_of was) item (Some row)
  rows_now =
      rows_by_item now (with_row (rows_of was) item (Some row)) rows_len
      (λ j lower. let less : j < count_of was = omega (arith, lower, count) in
      elim (cases_eq j item) [
        | inl here ↦
            ap (λ n. get_or (with_row (rows_of was) item (Some row)) n None) here ∙ row_at-with_row_here (rows_of was) item (Some row) there
            ∙ sym (row_in_live now (slot_at now item) (ap is_empty (same_slot item lt) ∙ live) ∙ ap Some (ap (λ (s : Slot). bytes_at now s.start s.len) (same_slot item lt) ∙ here_bytes)) ∙ ap (λ n. row_in now (slot_at now n)) (sym here)
        | inr other ↦
            row_at-with_row_other (rows_of was) item j (Some row) there other ∙ get_or-rows_of was j None less
            ∙ sym (row_in_same was now (slot_at was j) (elim (page.rows.each j less) [ inl empty ↦ inl empty | inr held ↦ inr (other_bytes j less other held) ]))
            ∙ ap (row_in now) (sym (same_slot j less))
      ])

  -- the lowest item without a row stays
  before_free : (k : ℕ) → k < free_item (rows_of was) → is_empty (slot_at was k) ≡ false
  before_free k less =
      let passes : not (is_none (get_or (rows_of was) k None)) ≡ true = prefix_len_passes (λ (r : Option (List ℕ)). not (is_none r)) (rows_of was) k None less in
      let same = is_none-rows_of was k (omega (arith, less, free_item-le was)) in
      elim (cases_Bool (is_empty (slot_at was k))) [ inl empty ↦ absurd (false≢true (sym (ap not (same ∙ empty)) ∙ passes)) | inr is ↦ is ]

  free_same : free_item (rows_of now) ≡ free_item (rows_of was)
  free_same = first_free now (free_item (rows_of was)) (omega (arith, free_item-le was, count))
      (λ k less. ap is_empty (same_slot k (omega (arith, less, free_item-le was))) ∙ before_free k less)
      (λ less. let lower : free_item (rows_of was) < count_of was = omega (arith, less, count) in ap is_empty (same_slot (free_item (rows_of was)) lower) ∙ free_slot was lower)

  pub room_stays : room_of now ≡ room_of was
  room_stays = λ t. if nat_lt (free_same t) 254 then low t - 32 - 4 * count t else 0

  long : 32 ≤ length was
  long = omega (arith, within, above)

  pub replaced : AddsRow was now item row
  replaced = record {
    well_made = record {
      size = subst IsPageSize (sym outside.size) page.size;
      head = record {
        kind = outside.bytes 8 (head_away 8 (omega arith)) ∙ page.head.kind;
        zero_9 = outside.bytes 9 (head_away 9 (omega arith)) ∙ page.head.zero_9;
        zero_12 = u32_same W was now 12 outside (omega (arith, long)) (λ k ge lower. head_away k (omega (arith, lower))) ∙ page.head.zero_12;
        zero_26 = u16_same W was now 26 outside (omega (arith, long)) (λ k ge lower. head_away k (omega (arith, lower))) ∙ page.head.zero_26;
        zero_28 = u32_same W was now 28 outside (omega (arith, long)) (λ k ge lower. head_away k (omega (arith, lower))) ∙ page.head.zero_28;
      };
      rows = record {
        few = omega (arith, count, page.rows.few);
        last = λ some. let less : count_of was - 1 < count_of was = omega (arith, some, count) in ap (λ n. is_empty (slot_at now (n - 1))) count ∙ ap is_empty (same_slot (count_of was - 1) less) ∙ page.rows.last (omega (arith, some, count));
        low = omega (arith, count, low, page.rows.low);
        each = λ j lower. each j (omega (arith, lower, count));
        apart = all_apart;
        full = omega (arith, low, all_bytes, page.rows.full, outside.size);
      };
    };
    says = λ t. record {
      id = record { 0 = u64_same W was now 0 outside (omega (arith, long)) (λ k ge lower. head_away k (omega (arith, lower))) t };
      prev = u32_same W was now 16 outside (omega (arith, long)) (λ k ge lower. head_away k (omega (arith, lower))) t;
      next = u32_same W was now 20 outside (omega (arith, long)) (λ k ge lower. head_away k (omega (arith, lower))) t;
      rows = rows_now t;
    };
    here = ap (λ (rows : List (Option (List ℕ))). row_at rows item) rows_now ∙ row_at-with_row_here (rows_of was) item (Some row) there;
    others = λ k other. ap (λ (rows : List (Option (List ℕ))). row_at rows k) rows_now ∙ row_at-with_row_other (rows_of was) item k (Some row) there other;
  }
