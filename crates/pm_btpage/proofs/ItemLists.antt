-- Lists of items with one more item, or another word in one: lengths, items by index, and that the keys rise.
use Rattle.std.proofs.Common.{◌≡◌, ℕ, suc, ◌+◌, ◌-◌, ◌<◌, ◌≤◌, List, [], ◌∷◌, length, take, drop, get_or, sym, ap, subst, ◌∙◌, inl, inr, arith}
use Rattle.std.proofs.lemmas.Bool.{cases_lt, cases_eq}
use Rattle.std.proofs.lemmas.List.{length-take-le, length-append, length-drop, get_or_append_left, get_or-append_right, get_or-take, get_or-drop, get_or_at}
use Rattle.pm_btpage.specs.IndexPages.{Item, IsBelow, IsRising, with_item, IsBetween}

-- no item
abbrev pub no_item : Item
no_item = record { key = []; word = 0 }

pub length-with_item : (items : List Item) (i : ℕ) (item : Item) → i ≤ length items → length (with_item items i item) ≡ length items + 1
length-with_item items i item le = omega (arith, length-append (take i items) (item ∷ drop i items), length-take-le i items le, length-drop i items)

pub with_item-below : (items : List Item) (i k : ℕ) (item : Item) → i ≤ length items → k < i → get_or (with_item items i item) k no_item ≡ get_or items k no_item
with_item-below items i k item le lt = get_or_append_left (take i items) (item ∷ drop i items) no_item k (omega (arith, length-take-le i items le)) ∙ get_or-take i items k no_item lt

pub with_item-here : (items : List Item) (i : ℕ) (item : Item) → i ≤ length items → get_or (with_item items i item) i no_item ≡ item
with_item-here items i item le = get_or_at (take i items) item (drop i items) no_item i (length-take-le i items le)

pub with_item-above : (items : List Item) (i k : ℕ) (item : Item) → i ≤ length items → i ≤ k → get_or (with_item items i item) (k + 1) no_item ≡ get_or items k no_item
with_item-above items i k item le ge =
    let front = length-take-le i items le in
    let step : k + 1 - i ≡ suc (k - i) = omega arith in
    let back : i + (k - i) ≡ k = omega arith in
    get_or-append_right (take i items) (item ∷ drop i items) i (k + 1) no_item front (omega arith)
    ∙ ap (λ n. get_or (item ∷ drop i items) n no_item) step ∙ get_or-drop i items (k - i) no_item ∙ ap (λ n. get_or items n no_item) back

-- the keys still rise with one that goes before i
pub rising-with_item : (items : List Item) (i : ℕ) (item : Item) → IsRising items → IsBetween items item.key i → IsRising (with_item items i item)
rising-with_item items i item rising goes a b less lt =
    let le = goes.in_range in
    let len = length-with_item items i item le in
    let P : Item → Item → Type 0 = λ x y. IsBelow x.key y.key in
    let get : ℕ → Item = λ k. get_or (with_item items i item) k no_item in
    let pair : (x y : Item) → get a ≡ x → get b ≡ y → P x y → P (get a) (get b) = λ x y p q h. subst (λ (z : Item × Item). P z.0 z.1) {x = (x, y)} {y = (get a, get b)} (λ t. (sym p t, sym q t)) h in
    let above : (k : ℕ) → i < k → get k ≡ get_or items (k - 1) no_item = λ k more. let e : k ≡ k - 1 + 1 = omega arith in ap get e ∙ with_item-above items i (k - 1) item le (omega arith) in
    elim (cases_lt b i) [
      | inl b_below ↦ pair (get_or items a no_item) (get_or items b no_item) (with_item-below items i a item le (omega arith)) (with_item-below items i b item le b_below) (rising a b less (omega (arith, le)))
      | inr b_from ↦ elim (cases_eq b i) [
        | inl b_is ↦ pair (get_or items a no_item) item (with_item-below items i a item le (omega (arith, b_is))) (ap get b_is ∙ with_item-here items i item le) (goes.below a (omega (arith, b_is)))
        | inr b_not ↦ let more : i < b = omega (arith, b_not) in
            elim (cases_lt a i) [
              | inl a_below ↦ pair (get_or items a no_item) (get_or items (b - 1) no_item) (with_item-below items i a item le a_below) (above b more) (rising a (b - 1) (omega arith) (omega (arith, len, lt)))
              | inr a_from ↦ elim (cases_eq a i) [
                | inl a_is ↦ pair item (get_or items (b - 1) no_item) (ap get a_is ∙ with_item-here items i item le) (above b more) (goes.above (b - 1) (omega arith) (omega (arith, len, lt)))
                | inr a_not ↦ pair (get_or items (a - 1) no_item) (get_or items (b - 1) no_item) (above a (omega (arith, a_not))) (above b more) (rising (a - 1) (b - 1) (omega (arith, a_not)) (omega (arith, len, lt)))
              ]
            ]
      ]
    ]
