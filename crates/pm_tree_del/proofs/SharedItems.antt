-- Items that went from one page to the one beside it: in one row they are what they were.
use Rattle.std.proofs.Common.{◌≡◌, ℕ, zero, suc, ◌+◌, ◌-◌, ◌<◌, true, false, List, [], ◌∷◌, ◌++◌, length, take, drop, append_assoc, refl, sym, ap, subst, ◌∙◌, inl, inr, arith}
use Rattle.std.specs.Prelude.{Bool}
use Rattle.std.proofs.lemmas.Bool.{cases_lt}
use Rattle.std.proofs.lemmas.List.{take-append-drop, length-take-le, length-append, length-drop, get_or_append_left, get_or-append_right, get_or-take, get_or-drop}
use Rattle.pm_btpage.specs.IndexPages.{Item, IndexPage, items_of, index_of, key_in, word_in, AllBelow, IsBelow, IsRising}
use Rattle.pm_btpage.proofs.ItemLists.{no_item}
use Rattle.pm_tree.proofs.KeyOrder.{below_then, not_below_itself}
use Rattle.pm_tree_del.specs.Neighbours.{joined_items, with_key, HasPlaceFor, Parts, AreNeighbours}
use Rattle.pm_tree_del.proofs.Stands.{with_more}

-- an item with the key that it has
pub key_kept : (items : List Item) (place : ℕ) → place < length items → with_key items place (key_in items place) ≡ items
key_kept [] place lt = absurd (omega (arith, lt))
key_kept (x ∷ xs) zero lt = refl
key_kept (x ∷ xs) (suc p) lt = with_more x xs p (key_in xs p) ∙ ap (λ (t : List Item). x ∷ t) (key_kept xs p (omega (arith, lt)))

first_on : (xs : List Item) → 0 < length xs → xs ≡ record { key = key_in xs 0; word = word_in xs 0 } ∷ drop 1 xs
first_on [] lt = absurd (omega (arith, lt))
first_on (x ∷ xs) lt = refl

last_on : (xs : List Item) → 0 < length xs → drop (length xs - 1) xs ≡ record { key = key_in xs (length xs - 1); word = word_in xs (length xs - 1) } ∷ []
last_on [] lt = absurd (omega (arith, lt))
last_on (x ∷ []) lt = refl
last_on (x ∷ y ∷ ys) lt =
    let e : length (x ∷ y ∷ ys) - 1 ≡ suc (length (y ∷ ys) - 1) = omega arith in
    ap (λ n. drop n (x ∷ y ∷ ys)) e ∙ last_on (y ∷ ys) (omega arith)
    ∙ sym (ap (λ n. record { key = key_in (x ∷ y ∷ ys) n; word = word_in (x ∷ y ∷ ys) n } ∷ []) e)

-- the keys of a row of two
left_key : (xs ys : List Item) (k : ℕ) → k < length xs → key_in (xs ++ ys) k ≡ key_in xs k
left_key xs ys k lt = ap (λ (x : Item). x.key) (get_or_append_left xs ys no_item k lt)

right_key : (xs ys : List Item) (k n : ℕ) → n ≡ length xs + k → key_in (xs ++ ys) n ≡ key_in ys k
right_key xs ys k n e =
    let back : n - length xs ≡ k = omega (arith, e) in
    ap (λ (x : Item). x.key) (get_or-append_right xs ys (length xs) n no_item refl (omega (arith, e))) ∙ ap (key_in ys) back

take_key : (xs : List Item) (n k : ℕ) → k < n → key_in (take n xs) k ≡ key_in xs k
take_key xs n k lt = ap (λ (x : Item). x.key) (get_or-take n xs k no_item lt)

drop_key : (xs : List Item) (n k : ℕ) → key_in (drop n xs) k ≡ key_in xs (n + k)
drop_key xs n k = ap (λ (x : Item). x.key) (get_or-drop n xs k no_item)

-- the first item of the right leaf went to the left one
module _ (left right : List Item) (rising : IsRising right) (apart : AllBelow left right) (many : 1 < length right) where
  first_left : (j : ℕ) → j < length (left ++ take 1 right) → IsBelow (key_in (left ++ take 1 right) j) (key_in right 1)
  first_left j lt = elim (cases_lt j (length left)) [
    | inl low ↦ subst (λ k. IsBelow k (key_in right 1)) (sym (left_key left (take 1 right) j low)) (apart j 1 low many)
    | inr high ↦
        let one : length (take 1 right) ≡ 1 = length-take-le 1 right (omega (arith, many)) in
        let e : j ≡ length left + 0 = omega (arith, high, lt, length-append left (take 1 right), one) in
        subst (λ k. IsBelow k (key_in right 1)) (sym (right_key left (take 1 right) 0 j e ∙ take_key right 1 0 (omega arith))) (rising 0 1 (omega arith) many)
  ]

  first_right : (j : ℕ) → j < length (drop 1 right) → IsBelow (key_in (drop 1 right) j) (key_in right 1) → ⊥
  first_right j lt below =
      let below' : IsBelow (key_in right (1 + j)) (key_in right 1) = subst (λ k. IsBelow k (key_in right 1)) (drop_key right 1 j) below in
      elim (cases_lt 0 j) [
        | inl some ↦ not_below_itself (key_in right 1) (below_then (key_in right 1) (key_in right (1 + j)) (key_in right 1) (rising 1 (1 + j) (omega (arith, some)) (omega (arith, lt, length-drop 1 right))) below')
        | inr none ↦ (let e : 1 + j ≡ 1 = omega (arith, none) in not_below_itself (key_in right 1) (subst (λ n. IsBelow (key_in right n) (key_in right 1)) e below'))
      ]

  pub first_parts : Parts (left ++ take 1 right) (drop 1 right) (key_in right 1)
  first_parts = (first_left, first_right)

-- the last item of the left leaf went to the right one
module _ (left right : List Item) (rising : IsRising left) (apart : AllBelow left right) (some : 0 < length left) where
  last_left : (j : ℕ) → j < length (take (length left - 1) left) → IsBelow (key_in (take (length left - 1) left) j) (key_in left (length left - 1))
  last_left j lt =
      let less : j < length left - 1 = omega (arith, lt, length-take-le (length left - 1) left (omega arith)) in
      subst (λ k. IsBelow k (key_in left (length left - 1))) (sym (take_key left (length left - 1) j less)) (rising j (length left - 1) less (omega (arith, some)))

  last_right : (j : ℕ) → j < length (drop (length left - 1) left ++ right) → IsBelow (key_in (drop (length left - 1) left ++ right) j) (key_in left (length left - 1)) → ⊥
  last_right j lt below =
      let one : length (drop (length left - 1) left) ≡ 1 = omega (arith, length-drop (length left - 1) left, some) in
      let last = key_in left (length left - 1) in
      elim (cases_lt j 1) [
        | inl low ↦
            let e : length left - 1 + j ≡ length left - 1 = omega (arith, low) in
            not_below_itself last (subst (λ k. IsBelow k last) (left_key (drop (length left - 1) left) right j (omega (arith, low, one)) ∙ drop_key left (length left - 1) j ∙ ap (key_in left) e) below)
        | inr high ↦
            let e : j ≡ length (drop (length left - 1) left) + (j - 1) = omega (arith, high, one) in
            let above = apart (length left - 1) (j - 1) (omega (arith, some)) (omega (arith, lt, high, one, length-append (drop (length left - 1) left) right)) in
            not_below_itself last (below_then last (key_in right (j - 1)) last above (subst (λ k. IsBelow k last) (right_key (drop (length left - 1) left) right (j - 1) j e) below))
      ]

  pub last_parts : Parts (take (length left - 1) left) (drop (length left - 1) left ++ right) (key_in left (length left - 1))
  last_parts = (last_left, last_right)

  pub last_joined : take (length left - 1) left ++ (drop (length left - 1) left ++ right) ≡ left ++ right
  last_joined = sym (append_assoc (take (length left - 1) left) (drop (length left - 1) left) right) ∙ ap (λ (t : List Item). t ++ right) (take-append-drop (length left - 1) left)

pub first_joined : (left right : List Item) → (left ++ take 1 right) ++ drop 1 right ≡ left ++ right
first_joined left right = append_assoc left (take 1 right) (drop 1 right) ∙ ap (λ (t : List Item). left ++ t) (take-append-drop 1 right)

-- the first child of the right page went to the left one
pub first_child_joined : (left right : List Item) (x : Item) → 0 < length right → (left ++ (x ∷ [])) ++ (record { key = key_in right 0; word = word_in right 0 } ∷ drop 1 right) ≡ left ++ (x ∷ right)
first_child_joined left right x some = append_assoc left (x ∷ []) (record { key = key_in right 0; word = word_in right 0 } ∷ drop 1 right) ∙ ap (λ (t : List Item). left ++ (x ∷ t)) (sym (first_on right some))

-- the last child of the left page went to the right one
pub last_child_joined : (left right : List Item) (x : Item) → 0 < length left → take (length left - 1) left ++ (record { key = key_in left (length left - 1); word = word_in left (length left - 1) } ∷ x ∷ right) ≡ left ++ (x ∷ right)
last_child_joined left right x some =
    ap (λ (t : List Item). take (length left - 1) left ++ (t ++ (x ∷ right))) (sym (last_on left some))
    ∙ sym (append_assoc (take (length left - 1) left) (drop (length left - 1) left) (x ∷ right))
    ∙ ap (λ (t : List Item). t ++ (x ∷ right)) (take-append-drop (length left - 1) left)

-- the key after those of the left page in the row of both, and its last
pub joined_after : (b : Bool) (left right : IndexPage) (s : List ℕ) (k : ℕ) → b ≡ true → key_in (joined_items b left right s) (length left.items + k) ≡ key_in right.items k
joined_after b left right s k e = subst (λ c. key_in (joined_items c left right s) (length left.items + k) ≡ key_in right.items k) (sym e) (right_key left.items right.items k (length left.items + k) refl)

pub joined_after_key : (b : Bool) (left right : IndexPage) (s : List ℕ) (k : ℕ) → b ≡ false → key_in (joined_items b left right s) (length left.items + suc k) ≡ key_in right.items k
joined_after_key b left right s k e = subst (λ c. key_in (joined_items c left right s) (length left.items + suc k) ≡ key_in right.items k) (sym e) (right_key left.items (record { key = s; word = right.link } ∷ right.items) (suc k) (length left.items + suc k) refl)

pub joined_before : (b : Bool) (left right : IndexPage) (s : List ℕ) (k : ℕ) → k < length left.items → key_in (joined_items b left right s) k ≡ key_in left.items k
joined_before true left right s k lt = left_key left.items right.items k lt
joined_before false left right s k lt = left_key left.items (record { key = s; word = right.link } ∷ right.items) k lt

pub joined_length : (b : Bool) (left right : IndexPage) (s : List ℕ) → (b ≡ true → length (joined_items b left right s) ≡ length left.items + length right.items) × (b ≡ false → length (joined_items b left right s) ≡ length left.items + length right.items + 1)
joined_length true left right s = ((λ e. length-append left.items right.items), (λ e. absurd (cc e)))
joined_length false left right s = ((λ e. absurd (cc e)), (λ e. omega (arith, length-append left.items (record { key = s; word = right.link } ∷ right.items))))

-- no key but the first of the row may stand in the parent's item, so the pages aren't neighbours
pub no_neighbours : (parent left right : List ℕ) (place k : ℕ) (key : List ℕ) → 0 < k → k < length (joined_items (index_of left).leaf (index_of left) (index_of right) (key_in (items_of parent) place))
    → key_in (joined_items (index_of left).leaf (index_of left) (index_of right) (key_in (items_of parent) place)) k ≡ key → (HasPlaceFor (items_of parent) place key → ⊥) → AreNeighbours parent left right place → ⊥
no_neighbours parent left right place k key some lt is out n = out (subst (HasPlaceFor (items_of parent) place) is (n.within k some lt))
