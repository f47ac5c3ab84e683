-- One item taken out: those after it stand one further down, and zeros where the last was.
use Rattle.std.proofs.Common.{◌≡◌, ℕ, ◌+◌, ◌-◌, ◌*◌, ◌<◌, ◌≤◌, ◌⊎◌, List, length, take, drop, get_or, replicate, sym, ap, subst, ◌∙◌, inl, inr, arith}
use Rattle.std.proofs.lemmas.Bool.{cases_lt}
use Rattle.std.proofs.lemmas.List.{length-take-le, length-append, length-drop, get_or_append_left, get_or-append_right, get_or-take, get_or-drop}
use Rattle.pm_types.specs.PageSizes.{IsPageSize}
use Rattle.pm_types.specs.Spans.{IsInSpan, span_of}
use Rattle.pm_types.specs.Pages.{SameOutside}
use Rattle.pm_types.specs.Fields.{bytes_at}
use Rattle.pm_types.proofs.Changes.{outside_then}
use Rattle.pm_types.proofs.PageSizeBounds.{page_size_bounds}
use Rattle.pm_types.proofs.Unchanged.{get_or-bytes_at, u64_same, are_zeros}
use Rattle.pm_btpage.specs.IndexPages.{Item, item_at, items_of, count_of, offset_of, without_item, IsBelow, IsItem, IsRising, IsIndexPage}
use Rattle.pm_btpage.proofs.Changed.{item_same}
use Rattle.pm_btpage.proofs.Inserted.{HasNewItems, head_kept}
use Rattle.pm_btpage.proofs.ItemLists.{no_item}
use Rattle.pm_btpage.proofs.ItemsByIndex.{length-items_of, get_or-items_of, items_by_index, SameItem, item_moved}

length-without_item : (items : List Item) (i : ℕ) → i < length items → length (without_item items i) + 1 ≡ length items
length-without_item items i lt = omega (arith, length-append (take i items) (drop (i + 1) items), length-take-le i items (omega arith), length-drop (i + 1) items)

without_item-below : (items : List Item) (i k : ℕ) → i < length items → k < i → get_or (without_item items i) k no_item ≡ get_or items k no_item
without_item-below items i k le lt = get_or_append_left (take i items) (drop (i + 1) items) no_item k (omega (arith, length-take-le i items (omega arith))) ∙ get_or-take i items k no_item lt

without_item-above : (items : List Item) (i k : ℕ) → i < length items → i ≤ k → get_or (without_item items i) k no_item ≡ get_or items (k + 1) no_item
without_item-above items i k lt ge =
    let back : i + 1 + (k - i) ≡ k + 1 = omega arith in
    get_or-append_right (take i items) (drop (i + 1) items) i k no_item (length-take-le i items (omega arith)) ge ∙ get_or-drop (i + 1) items (k - i) no_item ∙ ap (λ n. get_or items n no_item) back

rising-without_item : (items : List Item) (i : ℕ) → i < length items → IsRising items → IsRising (without_item items i)
rising-without_item items i lt rising a b less b_lt =
    let len = length-without_item items i lt in
    let get : ℕ → Item = λ k. get_or (without_item items i) k no_item in
    let old : ℕ → Item = λ k. get_or items k no_item in
    let pair : (x y : ℕ) → get a ≡ old x → get b ≡ old y → x < y → y < length items → IsBelow (get a).key (get b).key = λ x y p q x_y y_in. subst (λ (z : Item × Item). IsBelow z.0.key z.1.key) {x = (old x, old y)} {y = (get a, get b)} (λ t. (sym p t, sym q t)) (rising x y x_y y_in) in
    elim (cases_lt b i) [
      | inl b_below ↦ pair a b (without_item-below items i a lt (omega (arith, less, b_below))) (without_item-below items i b lt b_below) less (omega (arith, b_below, lt))
      | inr b_from ↦ elim (cases_lt a i) [
        | inl a_below ↦ pair a (b + 1) (without_item-below items i a lt a_below) (without_item-above items i b lt b_from) (omega (arith, less)) (omega (arith, b_lt, len))
        | inr a_from ↦ pair (a + 1) (b + 1) (without_item-above items i a lt a_from) (without_item-above items i b lt b_from) (omega (arith, less)) (omega (arith, b_lt, len))
      ]
    ]

-- what was written, in this order
pub record Steps (p0 p1 p2 p3 : List ℕ) (i last : ℕ) : Type 0 where
  pub after_move : SameOutside (IsInSpan (span_of (offset_of i) (73 * (last - i)))) p0 p1
  pub moved : bytes_at p1 (offset_of i) (73 * (last - i)) ≡ bytes_at p0 (offset_of i + 73) (73 * (last - i))
  pub after_zeros : SameOutside (IsInSpan (span_of (offset_of last) (73 * (last + 1 - last)))) p1 p2
  pub zeros : bytes_at p2 (offset_of last) (73 * (last + 1 - last)) ≡ replicate (73 * (last + 1 - last)) 0
  pub after_count : SameOutside (IsInSpan (span_of 10 2)) p2 p3
  pub count_is : count_of p3 ≡ last

abbrev IsWritten : ℕ → ℕ → ℕ → Type 0
IsWritten i last k = ((10 ≤ k) × (k < 12)) ⊎ ((offset_of i ≤ k) × (k < offset_of (last + 1)))

outside_all : (p0 p1 p2 p3 : List ℕ) (i last : ℕ) → i ≤ last → Steps p0 p1 p2 p3 i last → SameOutside (IsWritten i last) p0 p3
outside_all p0 p1 p2 p3 i last le s =
    let W = IsWritten i last in
    let first = outside_then (IsInSpan (span_of (offset_of i) (73 * (last - i)))) (IsInSpan (span_of (offset_of last) (73 * (last + 1 - last)))) W p0 p1 p2 s.after_move s.after_zeros (λ k h. inr (h.0, omega (arith, h.1, le))) (λ k h. inr (omega (arith, h.0, le), omega (arith, h.1))) in
    outside_then W (IsInSpan (span_of 10 2)) W p0 p2 p3 first s.after_count (λ k h. h) (λ k h. inl h)

moved_byte : (p0 p1 p2 p3 : List ℕ) (i last j k : ℕ) → Steps p0 p1 p2 p3 i last → i ≤ j → j < last → k < 73 → get_or p3 (offset_of j + k) 0 ≡ get_or p0 (offset_of (j + 1) + k) 0
moved_byte p0 p1 p2 p3 i last j k s ge lt less =
    let m = 73 * (j - i) + k in
    let at_new : offset_of j + k ≡ offset_of i + m = omega (arith, ge) in
    let at_old : offset_of i + 73 + m ≡ offset_of (j + 1) + k = omega (arith, ge) in
    let inside : m < 73 * (last - i) = omega (arith, ge, lt, less) in
    s.after_count.bytes (offset_of j + k) (λ h. omega (arith, h.1)) ∙ s.after_zeros.bytes (offset_of j + k) (λ h. omega (arith, h.0, lt, less))
    ∙ ap (λ q. get_or p1 q 0) at_new ∙ sym (get_or-bytes_at p1 (offset_of i) (73 * (last - i)) m inside)
    ∙ ap (λ (t : List ℕ). get_or t m 0) s.moved ∙ get_or-bytes_at p0 (offset_of i + 73) (73 * (last - i)) m inside ∙ ap (λ q. get_or p0 q 0) at_old

pub taken_out : (p0 p1 p2 p3 : List ℕ) (i last : ℕ) → IsIndexPage p0 → count_of p0 ≡ last + 1 → i ≤ last → Steps p0 p1 p2 p3 i last → HasNewItems p0 p3 (without_item (items_of p0) i)
taken_out p0 p1 p2 p3 i last page count le s =
    let W = IsWritten i last in
    let long = (page_size_bounds (length p0) page.size).0 in
    let outside = outside_all p0 p1 p2 p3 i last le s in
    let within : offset_of (last + 1) ≤ length p0 = omega (arith, count, page.items.within) in
    let old = items_of p0 in
    let in_old : i < length old = omega (arith, length-items_of p0, count, le) in
    let new = without_item old i in
    let new_len : length new ≡ last = omega (arith, length-without_item old i in_old, length-items_of p0, count) in
    let only : (k : ℕ) → k < 32 → W k → (10 ≤ k) × (k < 12) = λ k lt h. elim h [ inl in_count ↦ in_count | inr in_items ↦ absurd (omega (arith, lt, in_items.0)) ] in
    let below : (j : ℕ) → j < i → SameItem p0 p3 j j = λ j lt. item_same W p0 p3 j outside (omega (arith, lt, le, within)) (λ k ge less h. elim h [ inl in_count ↦ omega (arith, ge, in_count.1) | inr in_items ↦ omega (arith, less, lt, in_items.0) ]) (page.items.each j (omega (arith, lt, le, count))) in
    let above : (j : ℕ) → i ≤ j → j < last → SameItem p0 p3 (j + 1) j = λ j ge lt. item_moved p0 p3 (j + 1) j outside.size (omega (arith, lt, within)) (omega (arith, lt, within)) (λ k less. moved_byte p0 p1 p2 p3 i last j k s ge lt less) (page.items.each (j + 1) (omega (arith, lt, count))) in
    let each : (j : ℕ) → j < last → (get_or new j no_item ≡ item_at p3 j) × IsItem p3 j = λ j lt. elim (cases_lt j i) [
      | inl j_below ↦ (without_item-below old i j in_old j_below ∙ get_or-items_of p0 j no_item (omega (arith, lt, count)) ∙ sym (below j j_below).item, (below j j_below).sound)
      | inr j_from ↦ (without_item-above old i j in_old j_from ∙ get_or-items_of p0 (j + 1) no_item (omega (arith, lt, count)) ∙ sym (above j j_from lt).item, (above j j_from lt).sound)
    ] in
    let same_items : items_of p3 ≡ new = items_by_index p3 new no_item (new_len ∙ sym s.count_is) (λ j lt. (each j (omega (arith, lt, s.count_is))).0) in
    let zeros = are_zeros p2 (offset_of last) (73 * (last + 1 - last)) s.zeros in
    record {
      well_made = record {
        size = subst IsPageSize (sym outside.size) page.size;
        head = head_kept W p0 p3 outside (omega (arith, long)) only page.head;
        items = record {
          within = omega (arith, s.count_is, outside.size, within);
          each = λ j lt. (each j (omega (arith, lt, s.count_is))).1;
          rising = subst IsRising (sym same_items) (rising-without_item old i in_old page.items.rising);
          after = λ k ge lt. elim (cases_lt k (offset_of (last + 1))) [
            | inl inside ↦ s.after_count.bytes k (λ h. omega (arith, ge, h.1)) ∙ zeros k (omega (arith, ge, s.count_is)) (omega (arith, inside))
            | inr past ↦ outside.bytes k (λ h. elim h [ inl in_count ↦ omega (arith, ge, in_count.1) | inr in_items ↦ omega (arith, past, in_items.1) ]) ∙ page.items.after k (omega (arith, past, count)) (omega (arith, lt, outside.size))
          ];
        };
      };
      id = u64_same W p0 p3 0 outside (omega (arith, long)) (λ k ge lt h. omega (arith, lt, (only k (omega (arith, lt)) h).0));
      kind = outside.bytes 8 (λ h. omega (arith, (only 8 (omega arith) h).0));
      link = u64_same W p0 p3 16 outside (omega (arith, long)) (λ k ge lt h. omega (arith, ge, (only k (omega (arith, lt)) h).1));
      items_are = same_items;
    }
