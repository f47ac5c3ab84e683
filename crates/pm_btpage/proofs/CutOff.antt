-- The items from one on taken out: the others stay, and zeros stand after them.
use Rattle.std.proofs.Common.{◌≡◌, ℕ, ◌-◌, ◌*◌, ◌<◌, ◌≤◌, ◌⊎◌, List, length, take, get_or, replicate, sym, subst, ◌∙◌, inl, inr, arith}
use Rattle.std.proofs.lemmas.Bool.{cases_lt}
use Rattle.std.proofs.lemmas.List.{length-take-le, get_or-take}
use Rattle.pm_types.specs.PageSizes.{IsPageSize}
use Rattle.pm_types.specs.Spans.{IsInSpan, span_of}
use Rattle.pm_types.specs.Pages.{SameOutside}
use Rattle.pm_types.specs.Fields.{bytes_at}
use Rattle.pm_types.proofs.Changes.{outside_then}
use Rattle.pm_types.proofs.PageSizeBounds.{page_size_bounds}
use Rattle.pm_types.proofs.Unchanged.{u64_same, are_zeros}
use Rattle.pm_btpage.specs.IndexPages.{Item, items_of, count_of, offset_of, IsBelow, IsRising, IsIndexPage}
use Rattle.pm_btpage.proofs.Changed.{item_same}
use Rattle.pm_btpage.proofs.Inserted.{HasNewItems, head_kept}
use Rattle.pm_btpage.proofs.ItemLists.{no_item}
use Rattle.pm_btpage.proofs.ItemsByIndex.{length-items_of, get_or-items_of, items_by_index, SameItem}

rising-take : (items : List Item) (n : ℕ) → n ≤ length items → IsRising items → IsRising (take n items)
rising-take items n le rising a b less lt =
    let len = length-take-le n items le in
    subst (λ (z : Item × Item). IsBelow z.0.key z.1.key) {x = (get_or items a no_item, get_or items b no_item)} {y = (get_or (take n items) a no_item, get_or (take n items) b no_item)}
    (λ t. (sym (get_or-take n items a no_item (omega (arith, less, lt, len))) t, sym (get_or-take n items b no_item (omega (arith, lt, len))) t))
    (rising a b less (omega (arith, lt, len, le)))

pub cut_off : (p0 p1 p2 : List ℕ) (at n : ℕ) → IsIndexPage p0 → count_of p0 ≡ n → at ≤ n →
    SameOutside (IsInSpan (span_of (offset_of at) (73 * (n - at)))) p0 p1 → bytes_at p1 (offset_of at) (73 * (n - at)) ≡ replicate (73 * (n - at)) 0 →
    SameOutside (IsInSpan (span_of 10 2)) p1 p2 → count_of p2 ≡ at → HasNewItems p0 p2 (take at (items_of p0))
cut_off p0 p1 p2 at n page count le o1 zeros_are o2 count_is =
    let W : ℕ → Type 0 = λ k. ((10 ≤ k) × (k < 12)) ⊎ ((offset_of at ≤ k) × (k < offset_of n)) in
    let long = (page_size_bounds (length p0) page.size).0 in
    let outside = outside_then (IsInSpan (span_of (offset_of at) (73 * (n - at)))) (IsInSpan (span_of 10 2)) W p0 p1 p2 o1 o2 (λ k h. inr (omega (arith, h.0), omega (arith, h.1, le))) (λ k h. inl h) in
    let only : (k : ℕ) → k < 32 → W k → (10 ≤ k) × (k < 12) = λ k lt h. elim h [ inl in_count ↦ in_count | inr in_items ↦ absurd (omega (arith, lt, in_items.0)) ] in
    let within : offset_of n ≤ length p0 = omega (arith, count, page.items.within) in
    let old = items_of p0 in
    let in_old : at ≤ length old = omega (arith, length-items_of p0, count, le) in
    let kept_len = length-take-le at old in_old in
    let one : (j : ℕ) → j < at → SameItem p0 p2 j j = λ j lt. item_same W p0 p2 j outside (omega (arith, lt, le, within)) (λ k ge less h. elim h [ inl in_count ↦ omega (arith, ge, in_count.1) | inr in_items ↦ omega (arith, less, lt, in_items.0) ]) (page.items.each j (omega (arith, lt, le, count))) in
    let same_items : items_of p2 ≡ take at old = items_by_index p2 (take at old) no_item (kept_len ∙ sym count_is) (λ j lt. get_or-take at old j no_item (omega (arith, lt, count_is)) ∙ get_or-items_of p0 j no_item (omega (arith, lt, count_is, le, count)) ∙ sym (one j (omega (arith, lt, count_is))).item) in
    let zeros = are_zeros p1 (offset_of at) (73 * (n - at)) zeros_are in
    record {
      well_made = record {
        size = subst IsPageSize (sym outside.size) page.size;
        head = head_kept W p0 p2 outside (omega (arith, long)) only page.head;
        items = record {
          within = omega (arith, count_is, outside.size, within, le);
          each = λ j lt. (one j (omega (arith, lt, count_is))).sound;
          rising = subst IsRising (sym same_items) (rising-take old at in_old page.items.rising);
          after = λ k ge lt. elim (cases_lt k (offset_of n)) [
            | inl inside ↦ o2.bytes k (λ h. omega (arith, ge, h.1)) ∙ zeros k (omega (arith, ge, count_is)) (omega (arith, inside, le))
            | inr past ↦ outside.bytes k (λ h. elim h [ inl in_count ↦ omega (arith, ge, in_count.1) | inr in_items ↦ omega (arith, past, in_items.1) ]) ∙ page.items.after k (omega (arith, past, count)) (omega (arith, lt, outside.size))
          ];
        };
      };
      id = u64_same W p0 p2 0 outside (omega (arith, long)) (λ k ge lt h. omega (arith, lt, (only k (omega (arith, lt)) h).0));
      kind = outside.bytes 8 (λ h. omega (arith, (only 8 (omega arith) h).0));
      link = u64_same W p0 p2 16 outside (omega (arith, long)) (λ k ge lt h. omega (arith, ge, (only k (omega (arith, lt)) h).1));
      items_are = same_items;
    }
