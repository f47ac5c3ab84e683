-- Items of one page after those of another.
use Rattle.std.proofs.Common.{◌≡◌, ℕ, ◌+◌, ◌-◌, ◌*◌, ◌<◌, ◌≤◌, ◌⊎◌, List, ◌++◌, length, drop, get_or, refl, sym, ap, subst, ◌∙◌, inl, inr, arith}
use Rattle.std.proofs.lemmas.Bool.{cases_lt}
use Rattle.std.proofs.lemmas.List.{length-append, length-drop, get_or_append_left, get_or-append_right, get_or-drop}
use Rattle.pm_types.specs.PageSizes.{IsPageSize}
use Rattle.pm_types.specs.Spans.{IsInSpan, span_of}
use Rattle.pm_types.specs.Pages.{SameOutside}
use Rattle.pm_types.specs.Fields.{bytes_at}
use Rattle.pm_types.proofs.Changes.{outside_then}
use Rattle.pm_types.proofs.PageSizeBounds.{page_size_bounds}
use Rattle.pm_types.proofs.Unchanged.{get_or-bytes_at, u64_same}
use Rattle.pm_btpage.specs.IndexPages.{Item, item_at, items_of, count_of, offset_of, AllBelow, IsBelow, IsItem, IsRising, IsIndexPage}
use Rattle.pm_btpage.proofs.Changed.{item_same}
use Rattle.pm_btpage.proofs.Inserted.{HasNewItems, head_kept}
use Rattle.pm_btpage.proofs.ItemLists.{no_item}
use Rattle.pm_btpage.proofs.ItemsByIndex.{length-items_of, get_or-items_of, items_by_index, SameItem, item_moved}

rising-append : (low high : List Item) → IsRising low → IsRising high → AllBelow low high → IsRising (low ++ high)
rising-append low high rising_low rising_high below a b less lt =
    let len = length-append low high in
    let n = length low in
    let get : ℕ → Item = λ k. get_or (low ++ high) k no_item in
    let in_low : (k : ℕ) → k < n → get k ≡ get_or low k no_item = λ k k_lt. get_or_append_left low high no_item k k_lt in
    let in_high : (k : ℕ) → n ≤ k → get k ≡ get_or high (k - n) no_item = λ k ge. get_or-append_right low high n k no_item refl ge in
    let pair : (x y : Item) → get a ≡ x → get b ≡ y → IsBelow x.key y.key → IsBelow (get a).key (get b).key = λ x y p q h. subst (λ (z : Item × Item). IsBelow z.0.key z.1.key) {x = (x, y)} {y = (get a, get b)} (λ t. (sym p t, sym q t)) h in
    elim (cases_lt b n) [
      | inl b_low ↦ pair (get_or low a no_item) (get_or low b no_item) (in_low a (omega (arith, less, b_low))) (in_low b b_low) (rising_low a b less b_low)
      | inr b_high ↦ elim (cases_lt a n) [
        | inl a_low ↦ pair (get_or low a no_item) (get_or high (b - n) no_item) (in_low a a_low) (in_high b b_high) (below a (b - n) a_low (omega (arith, lt, len, b_high)))
        | inr a_high ↦ pair (get_or high (a - n) no_item) (get_or high (b - n) no_item) (in_high a a_high) (in_high b b_high) (rising_high (a - n) (b - n) (omega (arith, less, a_high)) (omega (arith, lt, len, b_high)))
      ]
    ]

rising-drop : (items : List Item) (at : ℕ) → at ≤ length items → IsRising items → IsRising (drop at items)
rising-drop items at le rising a b less lt =
    let len = length-drop at items in
    subst (λ (z : Item × Item). IsBelow z.0.key z.1.key) {x = (get_or items (at + a) no_item, get_or items (at + b) no_item)} {y = (get_or (drop at items) a no_item, get_or (drop at items) b no_item)}
    (λ t. (sym (get_or-drop at items a no_item) t, sym (get_or-drop at items b no_item) t))
    (rising (at + a) (at + b) (omega (arith, less)) (omega (arith, lt, len, le)))

pub appended : (p0 from p1 p2 : List ℕ) (at n end : ℕ) → IsIndexPage p0 → IsIndexPage from → length from ≡ length p0 → count_of p0 ≡ n → count_of from ≡ end → at ≤ end → offset_of (n + (end - at)) ≤ length p0 → AllBelow (items_of p0) (drop at (items_of from)) →
    SameOutside (IsInSpan (span_of (offset_of n) (73 * (end - at)))) p0 p1 → bytes_at p1 (offset_of n) (73 * (end - at)) ≡ bytes_at from (offset_of at) (73 * (end - at)) →
    SameOutside (IsInSpan (span_of 10 2)) p1 p2 → count_of p2 ≡ n + (end - at) → HasNewItems p0 p2 (items_of p0 ++ drop at (items_of from))
appended p0 from p1 p2 at n end page page' sizes count ends le fits order o1 bytes o2 count_is =
    let m = end - at in
    let count' : count_of from ≡ at + m = omega (arith, ends, le) in
    let W : ℕ → Type 0 = λ k. ((10 ≤ k) × (k < 12)) ⊎ ((offset_of n ≤ k) × (k < offset_of (n + m))) in
    let long = (page_size_bounds (length p0) page.size).0 in
    let outside = outside_then (IsInSpan (span_of (offset_of n) (73 * (end - at)))) (IsInSpan (span_of 10 2)) W p0 p1 p2 o1 o2 (λ k h. inr (h.0, omega (arith, h.1))) (λ k h. inl h) in
    let only : (k : ℕ) → k < 32 → W k → (10 ≤ k) × (k < 12) = λ k lt h. elim h [ inl in_count ↦ in_count | inr in_items ↦ absurd (omega (arith, lt, in_items.0)) ] in
    let old = items_of p0 in
    let more = drop at (items_of from) in
    let new = old ++ more in
    let old_len : length old ≡ n = length-items_of p0 ∙ count in
    let more_len : length more ≡ m = omega (arith, length-drop at (items_of from), length-items_of from, count') in
    let new_len : length new ≡ n + m = omega (arith, length-append old more, old_len, more_len) in
    let below : (j : ℕ) → j < n → SameItem p0 p2 j j = λ j lt. item_same W p0 p2 j outside (omega (arith, lt, fits)) (λ k ge less h. elim h [ inl in_count ↦ omega (arith, ge, in_count.1) | inr in_items ↦ omega (arith, less, lt, in_items.0) ]) (page.items.each j (omega (arith, lt, count))) in
    let byte : (j k : ℕ) → j < m → k < 73 → get_or p2 (offset_of (n + j) + k) 0 ≡ get_or from (offset_of (at + j) + k) 0 = λ j k lt less.
    let q = 73 * j + k in
    let at_new : offset_of (n + j) + k ≡ offset_of n + q = omega arith in
    let at_old : offset_of at + q ≡ offset_of (at + j) + k = omega arith in
    let inside : q < 73 * m = omega (arith, lt, less) in
    o2.bytes (offset_of (n + j) + k) (λ h. omega (arith, h.1)) ∙ ap (λ r. get_or p1 r 0) at_new ∙ sym (get_or-bytes_at p1 (offset_of n) (73 * (end - at)) q inside)
    ∙ ap (λ (t : List ℕ). get_or t q 0) bytes ∙ get_or-bytes_at from (offset_of at) (73 * (end - at)) q inside ∙ ap (λ r. get_or from r 0) at_old in
    let above : (j : ℕ) → j < m → SameItem from p2 (at + j) (n + j) = λ j lt. item_moved from p2 (at + j) (n + j) (outside.size ∙ sym sizes) (omega (arith, lt, count', page'.items.within)) (omega (arith, lt, fits, sizes)) (λ k less. byte j k lt less) (page'.items.each (at + j) (omega (arith, lt, count'))) in
    let each : (j : ℕ) → j < n + m → (get_or new j no_item ≡ item_at p2 j) × IsItem p2 j = λ j lt. elim (cases_lt j n) [
      | inl low ↦ (get_or_append_left old more no_item j (omega (arith, low, old_len)) ∙ get_or-items_of p0 j no_item (omega (arith, low, count)) ∙ sym (below j low).item, (below j low).sound)
      | inr high ↦
          let e : n + (j - n) ≡ j = omega (arith, high) in
          let one = above (j - n) (omega (arith, lt, high)) in
          (get_or-append_right old more n j no_item old_len high ∙ get_or-drop at (items_of from) (j - n) no_item ∙ get_or-items_of from (at + (j - n)) no_item (omega (arith, lt, high, count')) ∙ sym one.item ∙ ap (item_at p2) e, subst (IsItem p2) e one.sound)
    ] in
    let same_items : items_of p2 ≡ new = items_by_index p2 new no_item (new_len ∙ sym count_is) (λ j lt. (each j (omega (arith, lt, count_is))).0) in
    record {
      well_made = record {
        size = subst IsPageSize (sym outside.size) page.size;
        head = head_kept W p0 p2 outside (omega (arith, long)) only page.head;
        items = record {
          within = omega (arith, count_is, outside.size, fits);
          each = λ j lt. (each j (omega (arith, lt, count_is))).1;
          rising = subst IsRising (sym same_items) (rising-append old more page.items.rising (rising-drop (items_of from) at (omega (arith, length-items_of from, count')) page'.items.rising) order);
          after = λ k ge lt. outside.bytes k (λ h. elim h [ inl in_count ↦ omega (arith, ge, count_is, in_count.1) | inr in_items ↦ omega (arith, ge, count_is, in_items.1) ]) ∙ page.items.after k (omega (arith, ge, count_is, count)) (omega (arith, lt, outside.size));
        };
      };
      id = u64_same W p0 p2 0 outside (omega (arith, long)) (λ k ge lt h. omega (arith, lt, (only k (omega (arith, lt)) h).0));
      kind = outside.bytes 8 (λ h. omega (arith, (only 8 (omega arith) h).0));
      link = u64_same W p0 p2 16 outside (omega (arith, long)) (λ k ge lt h. omega (arith, ge, (only k (omega (arith, lt)) h).1));
      items_are = same_items;
    }
