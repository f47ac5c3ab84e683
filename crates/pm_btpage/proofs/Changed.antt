-- A change of the head's link, or of bytes after the head, leaves all else of an index page.
use Rattle.std.proofs.Common.{◌≡◌, ℕ, ◌+◌, ◌^◌, ◌<◌, ◌≤◌, List, [], length, get_or, sym, subst, ◌∙◌, inl, inr, arith}
use Rattle.pm_types.specs.PageSizes.{IsPageSize}
use Rattle.pm_types.specs.Pages.{SameOutside}
use Rattle.pm_types.specs.Fields.{u64_at}
use Rattle.pm_types.proofs.PageSizeBounds.{page_size_bounds}
use Rattle.pm_types.proofs.Unchanged.{u16_same, u64_same, zeros_same}
use Rattle.pm_btpage.specs.IndexPages.{Item, items_of, count_of, offset_of, IsItem, IsRising, IsIndexPage}
use Rattle.pm_btpage.proofs.ItemsByIndex.{length-items_of, get_or-items_of, items_by_index, SameItem, item_moved}

-- an item that no change covered
pub item_same : (P : ℕ → Type 0) (was now : List ℕ) (i : ℕ) → SameOutside P was now → offset_of i + 73 ≤ length was → ((k : ℕ) → offset_of i ≤ k → k < offset_of i + 73 → P k → ⊥) → IsItem was i → SameItem was now i i
item_same P was now i outside fits away sound = item_moved was now i i outside.size fits fits (λ k lt. outside.bytes (offset_of i + k) (away (offset_of i + k) (omega arith) (omega arith))) sound

pub record KeepsAllElse (was now : List ℕ) : Type 0 where
  pub well_made : IsIndexPage now
  pub id : u64_at now 0 ≡ u64_at was 0
  pub kind : get_or now 8 0 ≡ get_or was 8 0
  pub items : items_of now ≡ items_of was

pub link_only : (was now : List ℕ) → SameOutside (λ k. (16 ≤ k) × (k < 24)) was now → (get_or was 8 0 ≡ 2 → u64_at now 16 < 2 ^ 32) → IsIndexPage was → KeepsAllElse was now
link_only was now outside short page =
    let P : ℕ → Type 0 = λ k. (16 ≤ k) × (k < 24) in
    let long = (page_size_bounds (length was) page.size).0 in
    let kind_same : get_or now 8 0 ≡ get_or was 8 0 = outside.bytes 8 (λ h. omega (arith, h.0)) in
    let count : count_of now ≡ count_of was = u16_same P was now 10 outside (omega (arith, long)) (λ k ge lt h. omega (arith, h.0)) in
    let each : (i : ℕ) → i < count_of was → SameItem was now i i = λ i lt. item_same P was now i outside (omega (arith, page.items.within)) (λ k ge less h. omega (arith, h.1)) (page.items.each i lt) in
    let d : Item = record { key = []; word = 0 } in
    let same_items : items_of now ≡ items_of was = items_by_index now (items_of was) d (length-items_of was ∙ sym count) (λ i lt. get_or-items_of was i d (omega (arith, count)) ∙ sym (each i (omega (arith, count))).item) in
    record {
      well_made = record {
        size = subst IsPageSize (sym outside.size) page.size;
        head = record {
          kind = elim page.head.kind [ inl leaf ↦ inl (kind_same ∙ leaf) | inr inner ↦ inr (kind_same ∙ inner) ];
          zero_9 = outside.bytes 9 (λ h. omega (arith, h.0)) ∙ page.head.zero_9;
          zero_12 = zeros_same P was now 12 16 outside (λ k ge lt h. omega (arith, h.0)) page.head.zero_12;
          next = λ leaf. short (sym kind_same ∙ leaf);
          after_link = zeros_same P was now 24 32 outside (λ k ge lt h. omega (arith, h.1)) page.head.after_link;
        };
        items = record {
          within = omega (arith, count, page.items.within, outside.size);
          each = λ i lt. (each i (omega (arith, count))).sound;
          rising = subst IsRising (sym same_items) page.items.rising;
          after = λ k ge lt. zeros_same P was now (offset_of (count_of was)) (length was) outside (λ j low high h. omega (arith, h.1)) page.items.after k (omega (arith, count, ge)) (omega (arith, outside.size, lt));
        };
      };
      id = u64_same P was now 0 outside (omega (arith, long)) (λ k ge lt h. omega (arith, h.0));
      kind = kind_same;
      items = same_items;
    }
