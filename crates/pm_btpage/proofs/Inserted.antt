-- An item put between others: those from its place on stand one further up.
use Rattle.std.proofs.Common.{◌≡◌, ℕ, ◌+◌, ◌-◌, ◌*◌, ◌<◌, ◌≤◌, ◌==◌, ◌⊎◌, List, length, get_or, sym, ap, subst, ◌∙◌, inl, inr, arith}
use Rattle.std.proofs.lemmas.Bool.{cases_lt, cases_eq}
use Rattle.pm_types.specs.PageSizes.{IsPageSize}
use Rattle.pm_types.specs.Spans.{IsInSpan, span_of}
use Rattle.pm_types.specs.Pages.{SameOutside}
use Rattle.pm_types.specs.Fields.{bytes_at, u64_at}
use Rattle.pm_types.proofs.Changes.{outside_then}
use Rattle.pm_types.proofs.PageSizeBounds.{page_size_bounds}
use Rattle.pm_types.proofs.Unchanged.{get_or-bytes_at, u64_same, zeros_same}
use Rattle.pm_btpage.specs.IndexPages.{Item, index_of, item_at, items_of, count_of, offset_of, with_item, with_items, IsBetween, HasHead, IsItem, IsRising, IsIndexPage}
use Rattle.pm_btpage.proofs.Changed.{item_same}
use Rattle.pm_btpage.proofs.ItemLists.{no_item, length-with_item, with_item-below, with_item-here, with_item-above, rising-with_item}
use Rattle.pm_btpage.proofs.ItemsByIndex.{length-items_of, get_or-items_of, items_by_index, SameItem, item_moved}

-- the page is an index page with these items, and its head says what it said
pub record HasNewItems (was now : List ℕ) (items : List Item) : Type 0 where
  pub well_made : IsIndexPage now
  pub id : u64_at now 0 ≡ u64_at was 0
  pub kind : get_or now 8 0 ≡ get_or was 8 0
  pub link : u64_at now 16 ≡ u64_at was 16
  pub items_are : items_of now ≡ items

-- what the page then says
pub says_items : (was now : List ℕ) (items : List Item) → HasNewItems was now items → index_of now ≡ with_items (index_of was) items
says_items was now items new = λ j. record { id = record { 0 = new.id j }; leaf = ap (λ n. n == 2) new.kind j; link = new.link j; items = new.items_are j }

-- a change of the count, or after the head, keeps the head
pub head_kept : (P : ℕ → Type 0) (was now : List ℕ) → SameOutside P was now → 32 ≤ length was → ((k : ℕ) → k < 32 → P k → (10 ≤ k) × (k < 12)) → HasHead was → HasHead now
head_kept P was now outside long only head =
    let kind_same : get_or now 8 0 ≡ get_or was 8 0 = outside.bytes 8 (λ h. omega (arith, (only 8 (omega arith) h).0)) in
    let link : u64_at now 16 ≡ u64_at was 16 = u64_same P was now 16 outside (omega arith) (λ k ge lt h. omega (arith, ge, (only k (omega arith) h).1)) in
    record {
      kind = elim head.kind [ inl leaf ↦ inl (kind_same ∙ leaf) | inr inner ↦ inr (kind_same ∙ inner) ];
      zero_9 = outside.bytes 9 (λ h. omega (arith, (only 9 (omega arith) h).0)) ∙ head.zero_9;
      zero_12 = zeros_same P was now 12 16 outside (λ k ge lt h. omega (arith, ge, (only k (omega arith) h).1)) head.zero_12;
      next = λ leaf. omega (arith, link, head.next (sym kind_same ∙ leaf));
      after_link = zeros_same P was now 24 32 outside (λ k ge lt h. omega (arith, ge, (only k (omega arith) h).1)) head.after_link;
    }

-- what was written, in this order
pub record Steps (p0 p1 p2 p3 : List ℕ) (i n : ℕ) (item : Item) : Type 0 where
  pub after_move : SameOutside (IsInSpan (span_of (offset_of i + 73) (73 * (n - i)))) p0 p1
  pub moved : bytes_at p1 (offset_of i + 73) (73 * (n - i)) ≡ bytes_at p0 (offset_of i) (73 * (n - i))
  pub after_item : SameOutside (IsInSpan (span_of (offset_of i) 73)) p1 p2
  pub item_is : item_at p2 i ≡ item
  pub sound : IsItem p2 i
  pub after_count : SameOutside (IsInSpan (span_of 10 2)) p2 p3
  pub count_is : count_of p3 ≡ n + 1

-- the count, and what is from item i on
abbrev IsWritten : ℕ → ℕ → ℕ → Type 0
IsWritten i n k = ((10 ≤ k) × (k < 12)) ⊎ ((offset_of i ≤ k) × (k < offset_of (n + 1)))

-- where nothing but the count and the items was written
outside_all : (p0 p1 p2 p3 : List ℕ) (i n : ℕ) (item : Item) → i ≤ n → Steps p0 p1 p2 p3 i n item → SameOutside (IsWritten i n) p0 p3
outside_all p0 p1 p2 p3 i n item le s =
    let W = IsWritten i n in
    let first = outside_then (IsInSpan (span_of (offset_of i + 73) (73 * (n - i)))) (IsInSpan (span_of (offset_of i) 73)) W p0 p1 p2 s.after_move s.after_item (λ k h. inr (omega (arith, h.0), omega (arith, h.1))) (λ k h. inr (h.0, omega (arith, h.1))) in
    outside_then W (IsInSpan (span_of 10 2)) W p0 p2 p3 first s.after_count (λ k h. h) (λ k h. inl h)

-- the bytes of the items that moved
moved_byte : (p0 p1 p2 p3 : List ℕ) (i n j k : ℕ) (item : Item) → Steps p0 p1 p2 p3 i n item → i ≤ j → j < n → k < 73 → get_or p3 (offset_of (j + 1) + k) 0 ≡ get_or p0 (offset_of j + k) 0
moved_byte p0 p1 p2 p3 i n j k item s ge lt less =
    let m = 73 * (j - i) + k in
    let at_new : offset_of (j + 1) + k ≡ offset_of i + 73 + m = omega arith in
    let at_old : offset_of i + m ≡ offset_of j + k = omega arith in
    let inside : m < 73 * (n - i) = omega arith in
    s.after_count.bytes (offset_of (j + 1) + k) (λ h. omega (arith, h.1)) ∙ s.after_item.bytes (offset_of (j + 1) + k) (λ h. omega (arith, h.1))
    ∙ ap (λ q. get_or p1 q 0) at_new ∙ sym (get_or-bytes_at p1 (offset_of i + 73) (73 * (n - i)) m inside)
    ∙ ap (λ (t : List ℕ). get_or t m 0) s.moved ∙ get_or-bytes_at p0 (offset_of i) (73 * (n - i)) m inside ∙ ap (λ q. get_or p0 q 0) at_old

pub inserted : (p0 p1 p2 p3 : List ℕ) (i n : ℕ) (item : Item) → IsIndexPage p0 → count_of p0 ≡ n → offset_of (n + 1) ≤ length p0 → IsBetween (items_of p0) item.key i → Steps p0 p1 p2 p3 i n item → HasNewItems p0 p3 (with_item (items_of p0) i item)
inserted p0 p1 p2 p3 i n item page count fits goes s =
    let W = IsWritten i n in
    let long = (page_size_bounds (length p0) page.size).0 in
    let len = length-items_of p0 in
    let le : i ≤ n = omega (arith, goes.in_range, len, count) in
    let outside = outside_all p0 p1 p2 p3 i n item le s in
    let old = items_of p0 in
    let in_old : i ≤ length old = goes.in_range in
    let new = with_item old i item in
    let new_len : length new ≡ n + 1 = omega (arith, length-with_item old i item in_old, len, count) in
    let only : (k : ℕ) → k < 32 → W k → (10 ≤ k) × (k < 12) = λ k lt h. elim h [ inl in_count ↦ in_count | inr in_items ↦ absurd (omega (arith, in_items.0)) ] in
    let below : (j : ℕ) → j < i → SameItem p0 p3 j j = λ j lt. item_same W p0 p3 j outside (omega arith) (λ k ge less h. elim h [ inl in_count ↦ omega (arith, in_count.1) | inr in_items ↦ omega (arith, in_items.0) ]) (page.items.each j (omega (arith, count))) in
    let here : SameItem p2 p3 i i = item_same (IsInSpan (span_of 10 2)) p2 p3 i s.after_count (omega (arith, s.after_item.size, s.after_move.size)) (λ k ge less h. omega (arith, h.1)) s.sound in
    let above : (j : ℕ) → i ≤ j → j < n → SameItem p0 p3 j (j + 1) = λ j ge lt. item_moved p0 p3 j (j + 1) outside.size (omega arith) (omega arith) (λ k less. moved_byte p0 p1 p2 p3 i n j k item s ge lt less) (page.items.each j (omega (arith, count))) in
    let each : (j : ℕ) → j < n + 1 → (get_or new j no_item ≡ item_at p3 j) × IsItem p3 j = λ j lt. elim (cases_lt j i) [
      | inl j_below ↦ (with_item-below old i j item in_old j_below ∙ get_or-items_of p0 j no_item (omega (arith, count)) ∙ sym (below j j_below).item, (below j j_below).sound)
      | inr j_from ↦ elim (cases_eq j i) [
        | inl j_is ↦ subst (λ q. (get_or new q no_item ≡ item_at p3 q) × IsItem p3 q) (sym j_is) (with_item-here old i item in_old ∙ sym (here.item ∙ s.item_is), here.sound)
        | inr j_not ↦
            let e : j - 1 + 1 ≡ j = omega (arith, j_not) in
            let low : i ≤ j - 1 = omega (arith, j_not) in
            let one = above (j - 1) low (omega (arith, j_not)) in
            subst (λ q. (get_or new q no_item ≡ item_at p3 q) × IsItem p3 q) e (with_item-above old i (j - 1) item in_old low ∙ get_or-items_of p0 (j - 1) no_item (omega (arith, count, j_not)) ∙ sym one.item, one.sound)
      ]
    ] in
    let same_items : items_of p3 ≡ new = items_by_index p3 new no_item (new_len ∙ sym s.count_is) (λ j lt. (each j (omega (arith, s.count_is))).0) in
    record {
      well_made = record {
        size = subst IsPageSize (sym outside.size) page.size;
        head = head_kept W p0 p3 outside (omega (arith, long)) only page.head;
        items = record {
          within = omega (arith, s.count_is, outside.size, fits);
          each = λ j lt. (each j (omega (arith, s.count_is))).1;
          rising = subst IsRising (sym same_items) (rising-with_item old i item page.items.rising goes);
          after = λ k ge lt.
              let past : offset_of (n + 1) ≤ k = omega (arith, s.count_is) in
              outside.bytes k (λ h. elim h [ inl in_count ↦ omega (arith, in_count.1) | inr in_items ↦ omega (arith, in_items.1) ]) ∙ page.items.after k (omega (arith, count)) (omega (arith, outside.size, lt));
        };
      };
      id = u64_same W p0 p3 0 outside (omega (arith, long)) (λ k ge lt h. omega (arith, (only k (omega arith) h).0));
      kind = outside.bytes 8 (λ h. omega (arith, (only 8 (omega arith) h).0));
      link = u64_same W p0 p3 16 outside (omega (arith, long)) (λ k ge lt h. omega (arith, ge, (only k (omega arith) h).1));
      items_are = same_items;
    }
