-- The head of a data page: made anew, and changed in its links alone.
use Rattle.std.proofs.Common.{◌≡◌, ℕ, ◌+◌, ◌-◌, ◌<◌, ◌≤◌, ◌⊎◌, None, List, [], ◌∷◌, length, get_or, replicate, sym, ap, subst, ◌∙◌, inl, inr, arith}
use Rattle.std.proofs.lemmas.List.{get_or-replicate}
use Rattle.pm_types.specs.PageSizes.{IsPageSize}
use Rattle.pm_types.specs.Spans.{IsInSpan, span_of}
use Rattle.pm_types.specs.Pages.{SameOutside}
use Rattle.pm_types.specs.declared.page_id.PageId.{PageId}
use Rattle.pm_data.specs.declared.slots.Slot.{Slot}
use Rattle.pm_types.proofs.PageSizeBounds.{page_size_bounds}
use Rattle.pm_types.specs.Fields.{bytes_at, u64_at}
use Rattle.pm_data.specs.DataPages.{count_of, low_of, slot_at, is_empty, rows_of, row_in, data_of, empty_page, HoldsRow, AreApart, IsDataPage, row_bytes}
use Rattle.pm_types.proofs.Unchanged.{get_or-bytes_at, bytes_same, u16_same, u32_same, u64_same, zero_u16, zero_u32}
use Rattle.pm_data.proofs.SlotsKept.{slot_same}
use Rattle.pm_data.proofs.RowsByItem.{rows_by_item, length-rows_of, get_or-rows_of, row_bytes_same, holds_same, low_within, row_in_same}

pub record IsFresh (page : List ℕ) (id : PageId) : Type 0 where
  pub well_made : IsDataPage page
  pub says : data_of page ≡ empty_page id

-- a head of zeros, into which the name, the kind and the start of the rows were written
pub fresh_page : (p0 p1 p2 p3 : List ℕ) (id : PageId) → IsPageSize (length p0) → bytes_at p0 0 32 ≡ replicate 32 0 →
    SameOutside (IsInSpan (span_of 0 8)) p0 p1 → u64_at p1 0 ≡ id.0 →
    SameOutside (IsInSpan (span_of 8 1)) p1 p2 → bytes_at p2 8 1 ≡ 4 ∷ [] →
    SameOutside (IsInSpan (span_of 24 2)) p2 p3 → low_of p3 ≡ length p0 → IsFresh p3 id
fresh_page p0 p1 p2 p3 id size zeros o1 name_then o2 b2 o3 low =
    let bounds = page_size_bounds (length p0) size in
    let size' : length p3 ≡ length p0 = o3.size ∙ o2.size ∙ o1.size in
    let zero_then : (k : ℕ) → k < 32 → get_or p0 k 0 ≡ 0 = λ k lt. let at_k : k ≡ 0 + k = omega arith in ap (λ n. get_or p0 n 0) at_k ∙ sym (get_or-bytes_at p0 0 32 k lt) ∙ ap (λ (t : List ℕ). get_or t k 0) zeros ∙ get_or-replicate 32 k 0 0 lt in
    let zero_now : (k : ℕ) → 9 ≤ k → k < 32 → (k < 24) ⊎ (26 ≤ k) → get_or p3 k 0 ≡ 0 =
    λ k ge lt away. o3.bytes k (λ h. elim away [ inl below ↦ omega (arith, h.0) | inr above ↦ omega (arith, h.1) ]) ∙ o2.bytes k (λ h. omega (arith, h.1)) ∙ o1.bytes k (λ h. omega (arith, h.1)) ∙ zero_then k lt in
    let count : count_of p3 ≡ 0 = zero_u16 p3 10 (omega arith) (λ k ge lt. zero_now k (omega arith) (omega arith) (inl (omega arith))) in
    let name : u64_at p3 0 ≡ id.0 =
    u64_same (IsInSpan (span_of 24 2)) p2 p3 0 o3 (omega arith) (λ k ge lt h. omega (arith, h.0)) ∙ u64_same (IsInSpan (span_of 8 1)) p1 p2 0 o2 (omega arith) (λ k ge lt h. omega (arith, h.0)) ∙ name_then in
    let kind : get_or p3 8 0 ≡ 4 = o3.bytes 8 (λ h. omega (arith, h.0)) ∙ sym (get_or-bytes_at p2 8 1 0 (omega arith)) ∙ ap (λ (t : List ℕ). get_or t 0 0) b2 in
    record {
      well_made = record {
        size = subst IsPageSize (sym size') size;
        head = record {
          kind = kind;
          zero_9 = zero_now 9 (omega arith) (omega arith) (inl (omega arith));
          zero_12 = zero_u32 p3 12 (omega arith) (λ k ge lt. zero_now k (omega arith) (omega arith) (inl (omega arith)));
          zero_26 = zero_u16 p3 26 (omega arith) (λ k ge lt. zero_now k (omega arith) (omega arith) (inr ge));
          zero_28 = zero_u32 p3 28 (omega arith) (λ k ge lt. zero_now k (omega arith) (omega arith) (inr (omega arith)));
        };
        rows = record {
          few = omega (arith, count);
          last = λ some. absurd (omega (arith, count));
          low = omega (arith, count, low);
          each = λ item lt. absurd (omega (arith, count));
          apart = λ i j less lt. absurd (omega (arith, count));
          full = ap (λ n. low_of p3 + row_bytes p3 n) count ∙ omega (arith, low, size');
        };
      };
      says = λ j. record {
        id = record { 0 = name j };
        prev = zero_u32 p3 16 (omega arith) (λ k ge lt. zero_now k (omega arith) (omega arith) (inl (omega arith))) j;
        next = zero_u32 p3 20 (omega arith) (λ k ge lt. zero_now k (omega arith) (omega arith) (inl (omega arith))) j;
        rows = rows_by_item p3 [] (sym count) (λ item lt. absurd (omega (arith, count))) j;
      };
    }

-- a change of the links alone keeps all else
pub record KeepsAllElse (was now : List ℕ) : Type 0 where
  pub well_made : IsDataPage now
  pub id : u64_at now 0 ≡ u64_at was 0
  pub rows : rows_of now ≡ rows_of was

pub links_only : (was now : List ℕ) → SameOutside (λ k. (16 ≤ k) × (k < 24)) was now → IsDataPage was → KeepsAllElse was now
links_only was now outside page =
    let long : 32 ≤ length was = omega (arith, (page_size_bounds (length was) page.size).0) in
    let P : ℕ → Type 0 = λ k. (16 ≤ k) × (k < 24) in
    let low_le = low_within was page.rows in
    let count : count_of now ≡ count_of was = u16_same P was now 10 outside (omega arith) (λ k ge lt h. omega (arith, h.0)) in
    let low : low_of now ≡ low_of was = u16_same P was now 24 outside (omega arith) (λ k ge lt h. omega (arith, h.1)) in
    let slots : (item : ℕ) → item < count_of was → slot_at now item ≡ slot_at was item = λ item lt. slot_same P was now item outside (omega (arith, page.rows.low, low_le)) (λ k ge less h. omega (arith, h.1)) in
    let here : (item : ℕ) → item < count_of now → item < count_of was = λ item lt. omega (arith, count) in
    let stays : (item : ℕ) → item < count_of was → HoldsRow was (slot_at was item) → bytes_at now (slot_at was item).start (slot_at was item).len ≡ bytes_at was (slot_at was item).start (slot_at was item).len =
    λ item lt holds. bytes_same P was now (slot_at was item).start (slot_at was item).len outside holds.within (λ k ge less h. omega (arith, h.1, holds.above, page.rows.low)) in
    record {
      well_made = record {
        size = subst IsPageSize (sym outside.size) page.size;
        head = record {
          kind = outside.bytes 8 (λ h. omega (arith, h.0)) ∙ page.head.kind;
          zero_9 = outside.bytes 9 (λ h. omega (arith, h.0)) ∙ page.head.zero_9;
          zero_12 = u32_same P was now 12 outside (omega arith) (λ k ge lt h. omega (arith, h.0)) ∙ page.head.zero_12;
          zero_26 = u16_same P was now 26 outside (omega arith) (λ k ge lt h. omega (arith, h.1)) ∙ page.head.zero_26;
          zero_28 = u32_same P was now 28 outside (omega arith) (λ k ge lt h. omega (arith, h.1)) ∙ page.head.zero_28;
        };
        rows = record {
          few = omega (arith, count, page.rows.few);
          last = λ some. ap is_empty (ap (λ n. slot_at now (n - 1)) count ∙ slots (count_of was - 1) (omega (arith, count))) ∙ page.rows.last (omega (arith, count));
          low = omega (arith, count, low, page.rows.low);
          each = λ item lt. elim (page.rows.each item (here item lt)) [
            | inl empty ↦ inl (ap is_empty (slots item (here item lt)) ∙ empty)
            | inr holds ↦ inr (subst (λ s. HoldsRow now s) (sym (slots item (here item lt))) (holds_same was now (slot_at was item) (omega (arith, low, holds.above)) outside.size (stays item (here item lt) holds) holds))
          ];
          apart = λ i j less lt. subst (λ (p : Slot × Slot). AreApart p.0 p.1) {x = (slot_at was i, slot_at was j)} {y = (slot_at now i, slot_at now j)} (λ t. (sym (slots i (omega (arith, count))) t, sym (slots j (here j lt)) t)) (page.rows.apart i j less (here j lt));
          full = ap (λ n. low_of now + row_bytes now n) count ∙ (λ t. low t + row_bytes_same was now (count_of was) (λ k lt. ap (λ s. s.len) (slots k lt)) t) ∙ page.rows.full ∙ sym outside.size;
        };
      };
      id = u64_same P was now 0 outside (omega arith) (λ k ge lt h. omega (arith, h.0));
      rows = rows_by_item now (rows_of was) (length-rows_of was ∙ sym count) (λ item lt.
          get_or-rows_of was item None (here item lt)
          ∙ sym (row_in_same was now (slot_at was item) (elim (page.rows.each item (here item lt)) [ inl empty ↦ inl empty | inr holds ↦ inr (stays item (here item lt) holds) ]))
          ∙ ap (row_in now) (sym (slots item (here item lt))));
    }
