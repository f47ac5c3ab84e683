-- Items with another key in one, or with one more at their end: where keys stand in them.
use Rattle.std.proofs.Common.{◌≡◌, ℕ, ◌+◌, ◌-◌, ◌<◌, ◌≤◌, List, length, take, drop, get_or, sym, ap, subst, ◌∙◌, inl, inr, arith}
use Rattle.std.proofs.lemmas.Bool.{cases_lt}
use Rattle.std.proofs.lemmas.List.{length-take-le, length-append, length-drop, get_or_append_left, get_or-append_right, get_or-take, get_or-drop}
use Rattle.pm_btpage.specs.IndexPages.{Item, AllBelow, IsBelow, IsBetween, key_in, with_item, without_item}
use Rattle.pm_btpage.proofs.ItemLists.{no_item, length-with_item, with_item-below, with_item-here}
use Rattle.pm_tree.proofs.KeyOrder.{below_then}
use Rattle.pm_tree_del.specs.Neighbours.{HasPlaceFor}

pub length_without : (items : List Item) (i : ℕ) → i < length items → length (without_item items i) + 1 ≡ length items
length_without items i lt = omega (arith, length-append (take i items) (drop (i + 1) items), length-take-le i items (omega arith), length-drop (i + 1) items)

without_below : (items : List Item) (i k : ℕ) → i < length items → k < i → get_or (without_item items i) k no_item ≡ get_or items k no_item
without_below items i k le lt = get_or_append_left (take i items) (drop (i + 1) items) no_item k (omega (arith, length-take-le i items (omega arith))) ∙ get_or-take i items k no_item lt

without_above : (items : List Item) (i k : ℕ) → i < length items → i ≤ k → get_or (without_item items i) k no_item ≡ get_or items (k + 1) no_item
without_above items i k lt ge =
    let back : i + 1 + (k - i) ≡ k + 1 = omega arith in
    get_or-append_right (take i items) (drop (i + 1) items) i k no_item (length-take-le i items (omega arith)) ge ∙ get_or-drop (i + 1) items (k - i) no_item ∙ ap (λ n. get_or items n no_item) back

-- a key that may stand in item i stands there once that item is taken out
pub between_without : (items : List Item) (key : List ℕ) (i : ℕ) → i < length items → HasPlaceFor items i key → IsBetween (without_item items i) key i
between_without items key i lt place =
    let long = length_without items i lt in
    record {
      in_range = omega (arith, long, lt);
      below = λ j less. subst (λ (x : Item). IsBelow x.key key) (sym (without_below items i j lt less)) (place.below j less);
      above = λ j ge less. subst (λ (x : Item). IsBelow key x.key) (sym (without_above items i j lt ge)) (place.above (j + 1) (omega (arith, ge)) (omega (arith, less, long)));
    }

-- items that end with one more are all below others
pub below_with : (xs ys : List Item) (n : ℕ) (x : Item) → n ≡ length xs → ((j : ℕ) → j < length xs → IsBelow (key_in xs j) x.key) → ((j : ℕ) → j < length ys → IsBelow x.key (key_in ys j)) → AllBelow (with_item xs n x) ys
below_with xs ys n x is low high i j lt less =
    let le : n ≤ length xs = omega (arith, is) in
    let long = length-with_item xs n x le in
    elim (cases_lt i n) [
      | inl before ↦ subst (λ (z : Item). IsBelow z.key (key_in ys j)) (sym (with_item-below xs n i x le before)) (below_then (key_in xs i) x.key (key_in ys j) (low i (omega (arith, before, is))) (high j less))
      | inr from ↦ (let e : n ≡ i = omega (arith, from, lt, long, is) in subst (λ (z : Item). IsBelow z.key (key_in ys j)) (sym (ap (λ m. get_or (with_item xs n x) m no_item) (sym e) ∙ with_item-here xs n x le)) (high j less))
    ]
