-- A key removed from items: in lists that are joined, and what it changes of the map.
use Rattle.std.proofs.Common.{◌≡◌, ◌≢◌, ℕ, zero, suc, ◌+◌, List, [], ◌∷◌, ◌++◌, take, drop, refl, sym, ap, subst, ◌∙◌, inl, inr, arith}
use Rattle.std.specs.Prelude.{None, Some}
use Rattle.std.specs.Ordering.{nat_cmp}
use Rattle.std.specs.declared.cmp.Ordering.{Ordering}
use Rattle.std.specs.declared.cmp.Ordering.TheVariants.{Less, Equal, Greater}
use Rattle.std.specs.Cmp.Lexicographic.{slice_cmp}
use Rattle.std.proofs.lemmas.Map.Lookups.{exact_bytes}
use Rattle.pm_btpage.specs.IndexPages.{Item, IsBelow, IsRising, without_item}
use Rattle.pm_btpage.specs.Finds.{IsAt}
use Rattle.pm_btpage.proofs.Sought.{flipped}
use Rattle.pm_tree.specs.Maps.{by_order, get_in}
use Rattle.pm_tree.specs.Nodes.{Keys}
use Rattle.pm_tree.proofs.KeyOrder.{below_then, at_less, at_equal, at_greater, key_cases}
use Rattle.pm_tree.proofs.MapLists.{keys_by_index, keys_at, keys_weaker, get_none}
use Rattle.pm_tree_del.specs.Maps.{remove_in}

-- what holds of each key
pub keys_removed : (P : List ℕ → Type 0) (xs : List Item) (key : List ℕ) → Keys P xs → Keys P (remove_in xs key)
keys_removed P [] key each = tt
keys_removed P (x ∷ xs) key each = cases (keys_removed P xs key each.1) (slice_cmp nat_cmp x.key key)
  where
    cases : Keys P (remove_in xs key) → (o : Ordering) → Keys P (by_order o (x ∷ remove_in xs key) xs (x ∷ xs))
    cases more Less = (each.0, more)
    cases more Equal = each.1
    cases more Greater = each

-- after items that are all below
pub remove_after : (xs ys : List Item) (key : List ℕ) → Keys (λ k. IsBelow k key) xs → remove_in (xs ++ ys) key ≡ xs ++ remove_in ys key
remove_after [] ys key below = refl
remove_after (x ∷ xs) ys key below = at_less x.key key (x ∷ remove_in (xs ++ ys) key) (xs ++ ys) (x ∷ (xs ++ ys)) below.0 ∙ ap (λ (t : List Item). x ∷ t) (remove_after xs ys key below.1)

remove_none : (ys : List Item) (key : List ℕ) → Keys (λ k. IsBelow key k) ys → remove_in ys key ≡ ys
remove_none [] key above = refl
remove_none (y ∷ ys) key above = at_greater y.key key (y ∷ remove_in ys key) ys (y ∷ ys) above.0

-- before items that are all above
pub remove_before : (xs ys : List Item) (key : List ℕ) → Keys (λ k. IsBelow key k) ys → remove_in (xs ++ ys) key ≡ remove_in xs key ++ ys
remove_before [] ys key above = remove_none ys key above
remove_before (x ∷ xs) ys key above = cases (remove_before xs ys key above) (slice_cmp nat_cmp x.key key)
  where
    cases : remove_in (xs ++ ys) key ≡ remove_in xs key ++ ys → (o : Ordering) → by_order o (x ∷ remove_in (xs ++ ys) key) (xs ++ ys) (x ∷ (xs ++ ys)) ≡ by_order o (x ∷ remove_in xs key) xs (x ∷ xs) ++ ys
    cases more Less = ap (λ (t : List Item). x ∷ t) more
    cases more Equal = refl
    cases more Greater = refl

-- where the key stands
pub remove_found : (items : List Item) (key : List ℕ) (i : ℕ) → IsRising items → IsAt items key i → remove_in items key ≡ without_item items i
remove_found [] key i rising at = absurd (omega (arith, at.in_range))
remove_found (x ∷ xs) key zero rising at = at_equal x.key key (x ∷ remove_in xs key) xs (x ∷ xs) at.has_key
remove_found (x ∷ xs) key (suc i) rising at =
    at_less x.key key (x ∷ remove_in xs key) xs (x ∷ xs) (subst (IsBelow x.key) at.has_key (rising 0 (suc i) (omega arith) at.in_range))
    ∙ ap (λ (t : List Item). x ∷ t) (remove_found xs key i (λ a b less lt. rising (suc a) (suc b) (omega (arith, less)) (omega (arith, lt))) (record { in_range = omega (arith, at.in_range); has_key = at.has_key }))
    ∙ (let e : suc (i + 1) ≡ suc i + 1 = omega arith in ap (λ n. (x ∷ take i xs) ++ drop n (x ∷ xs)) e)

-- where it doesn't
pub remove_absent : (items : List Item) (key : List ℕ) → get_in items key ≡ None → remove_in items key ≡ items
remove_absent [] key none = refl
remove_absent (x ∷ xs) key none = cases (remove_absent xs key) (slice_cmp nat_cmp x.key key) none
  where
    cases : (get_in xs key ≡ None → remove_in xs key ≡ xs) → (o : Ordering) → by_order o (get_in xs key) (Some x.word) None ≡ None → by_order o (x ∷ remove_in xs key) xs (x ∷ xs) ≡ x ∷ xs
    cases more Less none = ap (λ (t : List Item). x ∷ t) (more none)
    cases more Equal none = absurd (cc none)
    cases more Greater none = refl

-- the keys rise, from the first one on
abbrev pub Rises : List Item → Type 0
Rises [] = Unit {0}
Rises (x ∷ xs) = Keys (λ k. IsBelow x.key k) xs × Rises xs

pub rises_from : (items : List Item) → IsRising items → Rises items
rises_from [] rising = tt
rises_from (x ∷ xs) rising = (keys_by_index (λ k. IsBelow x.key k) xs (λ j lt. rising 0 (suc j) (omega arith) (omega (arith, lt))), rises_from xs (λ i j less lt. rising (suc i) (suc j) (omega (arith, less)) (omega (arith, lt))))

get_removed : (items : List Item) (key : List ℕ) → Rises items → get_in (remove_in items key) key ≡ None
get_removed [] key rises = refl
get_removed (x ∷ xs) key rises = cases (get_removed xs key rises.1) (slice_cmp nat_cmp x.key key) refl
  where
    cases : get_in (remove_in xs key) key ≡ None → (o : Ordering) → slice_cmp nat_cmp x.key key ≡ o → get_in (by_order o (x ∷ remove_in xs key) xs (x ∷ xs)) key ≡ None
    cases more Less e = at_less x.key key (get_in (remove_in xs key) key) (Some x.word) None e ∙ more
    cases more Equal e = get_none xs key (subst (λ q. Keys (λ k. IsBelow q k) xs) (exact_bytes x.key key e) rises.0)
    cases more Greater e = at_greater x.key key (get_in xs key) (Some x.word) None (flipped x.key key e)

pub get_remove_here : (items : List Item) (key : List ℕ) → IsRising items → get_in (remove_in items key) key ≡ None
get_remove_here items key rising = get_removed items key (rises_from items rising)

get_kept : (items : List Item) (key other : List ℕ) → other ≢ key → Rises items → get_in (remove_in items key) other ≡ get_in items other
get_kept [] key other ne rises = refl
get_kept (x ∷ xs) key other ne rises = cases (get_kept xs key other ne rises.1) (slice_cmp nat_cmp x.key key) refl
  where
    cases : get_in (remove_in xs key) other ≡ get_in xs other → (o : Ordering) → slice_cmp nat_cmp x.key key ≡ o → get_in (by_order o (x ∷ remove_in xs key) xs (x ∷ xs)) other ≡ get_in (x ∷ xs) other
    cases more Less e = ap (λ t. by_order (slice_cmp nat_cmp x.key other) t (Some x.word) None) more
    cases more Equal e =
        let same : x.key ≡ key = exact_bytes x.key key e in
        elim (key_cases x.key other) [
          | inl lt ↦ sym (at_less x.key other (get_in xs other) (Some x.word) None lt)
          | inr r ↦ elim r [
            | inl eq ↦ absurd (ne (sym eq ∙ same))
            | inr gt ↦ get_none xs other (keys_weaker (λ k. IsBelow x.key k) (λ k. IsBelow other k) xs (λ k low. below_then other x.key k gt low) rises.0) ∙ sym (at_greater x.key other (get_in xs other) (Some x.word) None gt)
          ]
        ]
    cases more Greater e = refl

pub get_remove_other : (items : List Item) (key other : List ℕ) → IsRising items → other ≢ key → get_in (remove_in items key) other ≡ get_in items other
get_remove_other items key other rising ne = get_kept items key other ne (rises_from items rising)

pub rises_to : (items : List Item) → Rises items → IsRising items
rises_to [] rises i j less lt = absurd (omega (arith, lt))
rises_to (x ∷ xs) rises zero zero less lt = absurd (omega (arith, less))
rises_to (x ∷ xs) rises zero (suc j) less lt = keys_at (λ k. IsBelow x.key k) xs rises.0 j (omega (arith, lt))
rises_to (x ∷ xs) rises (suc i) zero less lt = absurd (omega (arith, less))
rises_to (x ∷ xs) rises (suc i) (suc j) less lt = rises_to xs rises.1 i j (omega (arith, less)) (omega (arith, lt))

rises_removed : (items : List Item) (key : List ℕ) → Rises items → Rises (remove_in items key)
rises_removed [] key rises = tt
rises_removed (x ∷ xs) key rises = cases (rises_removed xs key rises.1) (slice_cmp nat_cmp x.key key)
  where
    cases : Rises (remove_in xs key) → (o : Ordering) → Rises (by_order o (x ∷ remove_in xs key) xs (x ∷ xs))
    cases more Less = (keys_removed (λ k. IsBelow x.key k) xs key rises.0, more)
    cases more Equal = rises.1
    cases more Greater = rises

pub remove_rising : (items : List Item) (key : List ℕ) → IsRising items → IsRising (remove_in items key)
remove_rising items key rising = rises_to (remove_in items key) (rises_removed items key (rises_from items rising))
