-- Items as a sorted map, in lists that are joined.
use Rattle.std.proofs.Common.{◌≡◌, ℕ, zero, suc, ◌+◌, ◌<◌, List, [], ◌∷◌, ◌++◌, length, take, drop, refl, sym, ap, subst, ◌∙◌, arith}
use Rattle.std.specs.Prelude.{Option, None, Some}
use Rattle.std.specs.Ordering.{nat_cmp}
use Rattle.std.specs.declared.cmp.Ordering.{Ordering}
use Rattle.std.specs.declared.cmp.Ordering.TheVariants.{Less, Equal, Greater}
use Rattle.std.specs.Cmp.Lexicographic.{slice_cmp}
use Rattle.pm_btpage.specs.IndexPages.{Item, IsBelow, IsBetween, IsRising, key_in, word_in, with_item, with_word}
use Rattle.pm_btpage.specs.Finds.{IsAt}
use Rattle.pm_tree.specs.Maps.{by_order, get_in, put_in}
use Rattle.pm_tree.specs.Nodes.{Keys}
use Rattle.pm_tree.proofs.KeyOrder.{at_less, at_equal, at_greater}

pub keys_joined : (P : List ℕ → Type 0) (xs ys : List Item) → Keys P xs → Keys P ys → Keys P (xs ++ ys)
keys_joined P [] ys hx hy = hy
keys_joined P (x ∷ xs) ys hx hy = (hx.0, keys_joined P xs ys hx.1 hy)

pub keys_left : (P : List ℕ → Type 0) (xs ys : List Item) → Keys P (xs ++ ys) → Keys P xs
keys_left P [] ys h = tt
keys_left P (x ∷ xs) ys h = (h.0, keys_left P xs ys h.1)

pub keys_right : (P : List ℕ → Type 0) (xs ys : List Item) → Keys P (xs ++ ys) → Keys P ys
keys_right P [] ys h = h
keys_right P (x ∷ xs) ys h = keys_right P xs ys h.1

pub keys_weaker : (P Q : List ℕ → Type 0) (xs : List Item) → ((k : List ℕ) → P k → Q k) → Keys P xs → Keys Q xs
keys_weaker P Q [] f h = tt
keys_weaker P Q (x ∷ xs) f h = (f x.key h.0, keys_weaker P Q xs f h.1)

pub keys_by_index : (P : List ℕ → Type 0) (xs : List Item) → ((j : ℕ) → j < length xs → P (key_in xs j)) → Keys P xs
keys_by_index P [] h = tt
keys_by_index P (x ∷ xs) h = (h 0 (omega arith), keys_by_index P xs (λ j lt. h (suc j) (omega (arith, lt))))

pub keys_at : (P : List ℕ → Type 0) (xs : List Item) → Keys P xs → (j : ℕ) → j < length xs → P (key_in xs j)
keys_at P [] h j lt = absurd (omega (arith, lt))
keys_at P (x ∷ xs) h zero lt = h.0
keys_at P (x ∷ xs) h (suc j) lt = keys_at P xs h.1 j (omega (arith, lt))

-- after items that are all below
pub get_after : (xs ys : List Item) (key : List ℕ) → Keys (λ k. IsBelow k key) xs → get_in (xs ++ ys) key ≡ get_in ys key
get_after [] ys key below = refl
get_after (x ∷ xs) ys key below = at_less x.key key (get_in (xs ++ ys) key) (Some x.word) None below.0 ∙ get_after xs ys key below.1

pub put_after : (xs ys : List Item) (key : List ℕ) (word : ℕ) → Keys (λ k. IsBelow k key) xs → put_in (xs ++ ys) key word ≡ xs ++ put_in ys key word
put_after [] ys key word below = refl
put_after (x ∷ xs) ys key word below =
    at_less x.key key (x ∷ put_in (xs ++ ys) key word) (record { key = key; word = word } ∷ (xs ++ ys)) (record { key = key; word = word } ∷ x ∷ (xs ++ ys)) below.0 ∙ ap (λ (t : List Item). x ∷ t) (put_after xs ys key word below.1)

-- before items that are all above
pub get_none : (ys : List Item) (key : List ℕ) → Keys (λ k. IsBelow key k) ys → get_in ys key ≡ None
get_none [] key above = refl
get_none (y ∷ ys) key above = at_greater y.key key (get_in ys key) (Some y.word) None above.0

pub get_before : (xs ys : List Item) (key : List ℕ) → Keys (λ k. IsBelow key k) ys → get_in (xs ++ ys) key ≡ get_in xs key
get_before [] ys key above = get_none ys key above
get_before (x ∷ xs) ys key above = ap (λ (t : Option ℕ). by_order (slice_cmp nat_cmp x.key key) t (Some x.word) None) (get_before xs ys key above)

put_none : (ys : List Item) (key : List ℕ) (word : ℕ) → Keys (λ k. IsBelow key k) ys → put_in ys key word ≡ record { key = key; word = word } ∷ ys
put_none [] key word above = refl
put_none (y ∷ ys) key word above = at_greater y.key key (y ∷ put_in ys key word) (record { key = key; word = word } ∷ ys) (record { key = key; word = word } ∷ y ∷ ys) above.0

pub put_before : (xs ys : List Item) (key : List ℕ) (word : ℕ) → Keys (λ k. IsBelow key k) ys → put_in (xs ++ ys) key word ≡ put_in xs key word ++ ys
put_before [] ys key word above = put_none ys key word above
put_before (x ∷ xs) ys key word above = cases (put_before xs ys key word above) (slice_cmp nat_cmp x.key key)
  where
    new : Item
    new = record { key = key; word = word }

    cases : put_in (xs ++ ys) key word ≡ put_in xs key word ++ ys → (o : Ordering) → by_order o (x ∷ put_in (xs ++ ys) key word) (new ∷ (xs ++ ys)) (new ∷ x ∷ (xs ++ ys)) ≡ by_order o (x ∷ put_in xs key word) (new ∷ xs) (new ∷ x ∷ xs) ++ ys
    cases more Less = ap (λ (t : List Item). x ∷ t) more
    cases more Equal = refl
    cases more Greater = refl

-- what holds of each key and of the new one
pub keys_put : (P : List ℕ → Type 0) (xs : List Item) (key : List ℕ) (word : ℕ) → P key → Keys P xs → Keys P (put_in xs key word)
keys_put P [] key word here each = (here, tt)
keys_put P (x ∷ xs) key word here each = cases (keys_put P xs key word here each.1) (slice_cmp nat_cmp x.key key)
  where
    new : Item
    new = record { key = key; word = word }

    cases : Keys P (put_in xs key word) → (o : Ordering) → Keys P (by_order o (x ∷ put_in xs key word) (new ∷ xs) (new ∷ x ∷ xs))
    cases more Less = (each.0, more)
    cases more Equal = (here, each.1)
    cases more Greater = (here, each)

-- where the key stands
pub get_found : (items : List Item) (key : List ℕ) (i : ℕ) → IsRising items → IsAt items key i → get_in items key ≡ Some (word_in items i)
get_found [] key i rising at = absurd (omega (arith, at.in_range))
get_found (x ∷ xs) key zero rising at = at_equal x.key key (get_in xs key) (Some x.word) None at.has_key
get_found (x ∷ xs) key (suc i) rising at =
    at_less x.key key (get_in xs key) (Some x.word) None (subst (IsBelow x.key) at.has_key (rising 0 (suc i) (omega arith) at.in_range))
    ∙ get_found xs key i (rising_tail x xs rising) (record { in_range = omega (arith, at.in_range); has_key = at.has_key })
  where
    rising_tail : (x : Item) (xs : List Item) → IsRising (x ∷ xs) → IsRising xs
    rising_tail x xs rising i j less lt = rising (suc i) (suc j) (omega (arith, less)) (omega (arith, lt))

-- where it doesn't
pub get_between : (items : List Item) (key : List ℕ) (i : ℕ) → IsBetween items key i → get_in items key ≡ None
get_between [] key i between = refl
get_between (x ∷ xs) key zero between = at_greater x.key key (get_in xs key) (Some x.word) None (between.above 0 (omega arith) (omega arith))
get_between (x ∷ xs) key (suc i) between =
    at_less x.key key (get_in xs key) (Some x.word) None (between.below 0 (omega arith))
    ∙ get_between xs key i (record { in_range = omega (arith, between.in_range); below = λ j lt. between.below (suc j) (omega (arith, lt)); above = λ j le lt. between.above (suc j) (omega (arith, le)) (omega (arith, lt)) })

pub put_between : (items : List Item) (key : List ℕ) (word i : ℕ) → IsBetween items key i → put_in items key word ≡ with_item items i (record { key = key; word = word })
put_between [] key word zero between = refl
put_between [] key word (suc i) between = absurd (omega (arith, between.in_range))
put_between (x ∷ xs) key word zero between = at_greater x.key key (x ∷ put_in xs key word) (record { key = key; word = word } ∷ xs) (record { key = key; word = word } ∷ x ∷ xs) (between.above 0 (omega arith) (omega arith))
put_between (x ∷ xs) key word (suc i) between =
    at_less x.key key (x ∷ put_in xs key word) (record { key = key; word = word } ∷ xs) (record { key = key; word = word } ∷ x ∷ xs) (between.below 0 (omega arith))
    ∙ ap (λ (t : List Item). x ∷ t) (put_between xs key word i (record { in_range = omega (arith, between.in_range); below = λ j lt. between.below (suc j) (omega (arith, lt)); above = λ j le lt. between.above (suc j) (omega (arith, le)) (omega (arith, lt)) }))

pub put_found : (items : List Item) (key : List ℕ) (word i : ℕ) → IsRising items → IsAt items key i → put_in items key word ≡ with_word items i word
put_found [] key word i rising at = absurd (omega (arith, at.in_range))
put_found (x ∷ xs) key word zero rising at =
    at_equal x.key key (x ∷ put_in xs key word) (record { key = key; word = word } ∷ xs) (record { key = key; word = word } ∷ x ∷ xs) at.has_key
    ∙ ap (λ (k : List ℕ). record { key = k; word = word } ∷ xs) (sym at.has_key)
put_found (x ∷ xs) key word (suc i) rising at =
    at_less x.key key (x ∷ put_in xs key word) (record { key = key; word = word } ∷ xs) (record { key = key; word = word } ∷ x ∷ xs) (subst (IsBelow x.key) at.has_key (rising 0 (suc i) (omega arith) at.in_range))
    ∙ ap (λ (t : List Item). x ∷ t) (put_found xs key word i (λ a b less lt. rising (suc a) (suc b) (omega (arith, less)) (omega (arith, lt))) (record { in_range = omega (arith, at.in_range); has_key = at.has_key }))
    ∙ (let e : suc (i + 1) ≡ suc i + 1 = omega arith in ap (λ n. (x ∷ take i xs) ++ (record { key = key_in xs i; word = word }) ∷ drop n (x ∷ xs)) e)
