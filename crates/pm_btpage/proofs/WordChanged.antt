-- Another word in one item leaves all else.
use Rattle.std.proofs.Common.{◌≡◌, ℕ, suc, ◌+◌, ◌-◌, ◌<◌, ◌≤◌, List, ◌∷◌, length, take, drop, get_or, sym, ap, subst, ◌∙◌, inl, inr, arith}
use Rattle.std.proofs.lemmas.Bool.{cases_lt, cases_eq}
use Rattle.std.proofs.lemmas.List.{length-take-le, length-append, length-drop, get_or_append_left, get_or-append_right, get_or-take, get_or-drop, get_or_at}
use Rattle.pm_types.specs.PageSizes.{IsPageSize}
use Rattle.pm_types.specs.Spans.{IsInSpan, span_of}
use Rattle.pm_types.specs.Pages.{SameOutside}
use Rattle.pm_types.specs.Fields.{bytes_at, u64_at}
use Rattle.pm_types.proofs.PageSizeBounds.{page_size_bounds}
use Rattle.pm_types.proofs.Unchanged.{bytes_same, u16_same, u64_same}
use Rattle.pm_btpage.specs.IndexPages.{Item, item_at, items_of, count_of, offset_of, key_in, with_word, IsBelow, IsItem, IsRising, IsIndexPage}
use Rattle.pm_btpage.proofs.Changed.{item_same}
use Rattle.pm_btpage.proofs.Inserted.{HasNewItems, head_kept}
use Rattle.pm_btpage.proofs.ItemLists.{no_item}
use Rattle.pm_btpage.proofs.ItemsByIndex.{length-items_of, get_or-items_of, items_by_index}

-- the item with another word
abbrev reworded : List Item → ℕ → ℕ → Item
reworded items i word = record { key = key_in items i; word = word }

length-with_word : (items : List Item) (i word : ℕ) → i < length items → length (with_word items i word) ≡ length items
length-with_word items i word lt = omega (arith, length-append (take i items) (reworded items i word ∷ drop (i + 1) items), length-take-le i items (omega arith), length-drop (i + 1) items)

with_word-here : (items : List Item) (i word : ℕ) → i < length items → get_or (with_word items i word) i no_item ≡ reworded items i word
with_word-here items i word lt = get_or_at (take i items) (reworded items i word) (drop (i + 1) items) no_item i (length-take-le i items (omega arith))

with_word-other : (items : List Item) (i k word : ℕ) → i < length items → (k ≡ i → ⊥) → get_or (with_word items i word) k no_item ≡ get_or items k no_item
with_word-other items i k word le not =
    let front = length-take-le i items (omega arith) in
    elim (cases_lt k i) [
      | inl lt ↦ get_or_append_left (take i items) (reworded items i word ∷ drop (i + 1) items) no_item k (omega (arith, front)) ∙ get_or-take i items k no_item lt
      | inr ge ↦
          let more : i < k = elim (cases_eq k i) [ inl same ↦ absurd (not same) | inr other ↦ omega (arith, ge, other) ] in
          let step : k - i ≡ suc (k - i - 1) = omega arith in
          let back : i + 1 + (k - i - 1) ≡ k = omega arith in
          get_or-append_right (take i items) (reworded items i word ∷ drop (i + 1) items) i k no_item front ge
          ∙ ap (λ n. get_or (reworded items i word ∷ drop (i + 1) items) n no_item) step ∙ get_or-drop (i + 1) items (k - i - 1) no_item ∙ ap (λ n. get_or items n no_item) back
    ]

key-with_word : (items : List Item) (i k word : ℕ) → i < length items → key_in (with_word items i word) k ≡ key_in items k
key-with_word items i k word lt = elim (cases_eq k i) [
  | inl same ↦ ap (key_in (with_word items i word)) same ∙ ap (λ (x : Item). x.key) (with_word-here items i word lt) ∙ ap (key_in items) (sym same)
  | inr other ↦ ap (λ (x : Item). x.key) (with_word-other items i k word lt other)
]

rising-with_word : (items : List Item) (i word : ℕ) → i < length items → IsRising items → IsRising (with_word items i word)
rising-with_word items i word lt rising a b less b_lt =
    subst (λ (z : List ℕ × List ℕ). IsBelow z.0 z.1) {x = (key_in items a, key_in items b)} {y = (key_in (with_word items i word) a, key_in (with_word items i word) b)} (λ t. (sym (key-with_word items i a word lt) t, sym (key-with_word items i b word lt) t))
    (rising a b less (omega (arith, b_lt, length-with_word items i word lt)))

pub word_changed : (was now : List ℕ) (i word : ℕ) → IsIndexPage was → i < length (items_of was) → SameOutside (IsInSpan (span_of (offset_of i + 65) 8)) was now → u64_at now (offset_of i + 65) ≡ word → HasNewItems was now (with_word (items_of was) i word)
word_changed was now i word page lt outside word_is =
    let P = IsInSpan (span_of (offset_of i + 65) 8) in
    let long = (page_size_bounds (length was) page.size).0 in
    let len = length-items_of was in
    let few : i < count_of was = omega (arith, lt, len) in
    let old = items_of was in
    let new = with_word old i word in
    let count : count_of now ≡ count_of was = u16_same P was now 10 outside (omega (arith, long)) (λ k ge less h. omega (arith, h.0)) in
    let sound = page.items.each i few in
    let fits : offset_of i + 73 ≤ length was = omega (arith, few, page.items.within) in
    let key_len : get_or now (offset_of i) 0 ≡ get_or was (offset_of i) 0 = outside.bytes (offset_of i) (λ h. omega (arith, h.0)) in
    let key_bytes : bytes_at now (offset_of i + 1) (get_or now (offset_of i) 0) ≡ bytes_at was (offset_of i + 1) (get_or was (offset_of i) 0) =
    ap (bytes_at now (offset_of i + 1)) key_len ∙ bytes_same P was now (offset_of i + 1) (get_or was (offset_of i) 0) outside (omega (arith, fits, sound.short)) (λ k ge less h. omega (arith, less, sound.short, h.0)) in
    let key_is : bytes_at now (offset_of i + 1) (get_or now (offset_of i) 0) ≡ key_in old i = key_bytes ∙ sym (ap (λ (x : Item). x.key) (get_or-items_of was i no_item few)) in
    let here : item_at now i ≡ reworded old i word = λ t. record { key = key_is t; word = word_is t } in
    let here_sound : IsItem now i = record {
      some = omega (arith, key_len, sound.some);
      short = omega (arith, key_len, sound.short);
      padding = λ k ge less. outside.bytes k (λ h. omega (arith, less, h.0)) ∙ sound.padding k (omega (arith, key_len, ge)) less;
    } in
    let each : (j : ℕ) → j < count_of was → (get_or new j no_item ≡ item_at now j) × IsItem now j = λ j j_lt. elim (cases_eq j i) [
      | inl j_is ↦ subst (λ q. (get_or new q no_item ≡ item_at now q) × IsItem now q) (sym j_is) (with_word-here old i word lt ∙ sym here, here_sound)
      | inr j_not ↦
          let one = item_same P was now j outside (omega (arith, j_lt, page.items.within)) (λ k ge less h. elim (cases_lt j i) [ inl below ↦ omega (arith, h.0, less, below) | inr from ↦ absurd (j_not (omega (arith, from, h.1, ge))) ]) (page.items.each j j_lt) in
          (with_word-other old i j word lt j_not ∙ get_or-items_of was j no_item j_lt ∙ sym one.item, one.sound)
    ] in
    let same_items : items_of now ≡ new = items_by_index now new no_item (length-with_word old i word lt ∙ len ∙ sym count) (λ j j_lt. (each j (omega (arith, count, j_lt))).0) in
    let only : (k : ℕ) → k < 32 → P k → (10 ≤ k) × (k < 12) = λ k less h. absurd (omega (arith, h.0)) in
    record {
      well_made = record {
        size = subst IsPageSize (sym outside.size) page.size;
        head = head_kept P was now outside (omega (arith, long)) only page.head;
        items = record {
          within = omega (arith, count, outside.size, page.items.within);
          each = λ j j_lt. (each j (omega (arith, count, j_lt))).1;
          rising = subst IsRising (sym same_items) (rising-with_word old i word lt page.items.rising);
          after = λ k ge less. outside.bytes k (λ h. omega (arith, ge, count, h.1, few)) ∙ page.items.after k (omega (arith, count, ge)) (omega (arith, outside.size, less));
        };
      };
      id = u64_same P was now 0 outside (omega (arith, long)) (λ k ge less h. omega (arith, h.0));
      kind = outside.bytes 8 (λ h. omega (arith, h.0));
      link = u64_same P was now 16 outside (omega (arith, long)) (λ k ge less h. omega (arith, h.0));
      items_are = same_items;
    }
