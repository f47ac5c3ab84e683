-- Items as a sorted map: what a put changes.
use Rattle.std.proofs.Common.{◌≡◌, ◌≢◌, ℕ, zero, suc, List, [], ◌∷◌, refl, sym, ap, subst, ◌∙◌, inl, inr, arith}
use Rattle.std.specs.Prelude.{None, Some}
use Rattle.std.specs.Ordering.{nat_cmp}
use Rattle.std.specs.declared.cmp.Ordering.{Ordering}
use Rattle.std.specs.declared.cmp.Ordering.TheVariants.{Less, Equal, Greater}
use Rattle.std.specs.Cmp.Lexicographic.{slice_cmp}
use Rattle.std.proofs.lemmas.Map.Lookups.{exact_bytes}
use Rattle.pm_btpage.specs.IndexPages.{Item, IsBelow, IsRising}
use Rattle.pm_btpage.proofs.Sought.{flipped}
use Rattle.pm_tree.specs.Maps.{by_order, get_in, put_in}
use Rattle.pm_tree.specs.Nodes.{Keys}
use Rattle.pm_tree.proofs.KeyOrder.{below_then, at_less, at_equal, at_greater, key_cases}
use Rattle.pm_tree.proofs.MapLists.{keys_by_index, keys_at, keys_put, keys_weaker}

-- the keys rise, from the first one on
abbrev Rises : List Item → Type 0
Rises [] = Unit {0}
Rises (x ∷ xs) = Keys (λ k. IsBelow x.key k) xs × Rises xs

rises_from : (items : List Item) → IsRising items → Rises items
rises_from [] rising = tt
rises_from (x ∷ xs) rising = (keys_by_index (λ k. IsBelow x.key k) xs (λ j lt. rising 0 (suc j) (omega arith) (omega (arith, lt))), rises_from xs (λ i j less lt. rising (suc i) (suc j) (omega (arith, less)) (omega (arith, lt))))

rises_to : (items : List Item) → Rises items → IsRising items
rises_to [] rises i j less lt = absurd (omega (arith, lt))
rises_to (x ∷ xs) rises zero zero less lt = absurd (omega (arith, less))
rises_to (x ∷ xs) rises zero (suc j) less lt = keys_at (λ k. IsBelow x.key k) xs rises.0 j (omega (arith, lt))
rises_to (x ∷ xs) rises (suc i) zero less lt = absurd (omega (arith, less))
rises_to (x ∷ xs) rises (suc i) (suc j) less lt = rises_to xs rises.1 i j (omega (arith, less)) (omega (arith, lt))

rises_put : (items : List Item) (key : List ℕ) (word : ℕ) → Rises items → Rises (put_in items key word)
rises_put [] key word rises = (tt, tt)
rises_put (x ∷ xs) key word rises = cases (rises_put xs key word rises.1) (slice_cmp nat_cmp x.key key) refl
  where
    new : Item
    new = record { key = key; word = word }

    cases : Rises (put_in xs key word) → (o : Ordering) → slice_cmp nat_cmp x.key key ≡ o → Rises (by_order o (x ∷ put_in xs key word) (new ∷ xs) (new ∷ x ∷ xs))
    cases more Less e = (keys_put (λ k. IsBelow x.key k) xs key word e rises.0, more)
    cases more Equal e = (subst (λ q. Keys (λ k. IsBelow q k) xs) (exact_bytes x.key key e) rises.0, rises.1)
    cases more Greater e =
        let above : IsBelow key x.key = flipped x.key key e in
        ((above, keys_weaker (λ k. IsBelow x.key k) (λ k. IsBelow key k) xs (λ k low. below_then key x.key k above low) rises.0), rises)

pub put_rising : (items : List Item) (key : List ℕ) (word : ℕ) → IsRising items → IsRising (put_in items key word)
put_rising items key word rising = rises_to (put_in items key word) (rises_put items key word (rises_from items rising))

pub get_put_here : (items : List Item) (key : List ℕ) (word : ℕ) → get_in (put_in items key word) key ≡ Some word
get_put_here [] key word = at_equal key key None (Some word) None refl
get_put_here (x ∷ xs) key word = cases (get_put_here xs key word) (slice_cmp nat_cmp x.key key) refl
  where
    new : Item
    new = record { key = key; word = word }

    cases : get_in (put_in xs key word) key ≡ Some word → (o : Ordering) → slice_cmp nat_cmp x.key key ≡ o → get_in (by_order o (x ∷ put_in xs key word) (new ∷ xs) (new ∷ x ∷ xs)) key ≡ Some word
    cases more Less e = at_less x.key key (get_in (put_in xs key word) key) (Some x.word) None e ∙ more
    cases more Equal e = at_equal key key (get_in xs key) (Some word) None refl
    cases more Greater e = at_equal key key (get_in (x ∷ xs) key) (Some word) None refl

pub get_put_other : (items : List Item) (key other : List ℕ) (word : ℕ) → other ≢ key → get_in (put_in items key word) other ≡ get_in items other
get_put_other [] key other word ne = elim (key_cases key other) [
  | inl lt ↦ at_less key other None (Some word) None lt
  | inr r ↦ elim r [ inl e ↦ absurd (ne (sym e)) | inr gt ↦ at_greater key other None (Some word) None gt ]
]
get_put_other (x ∷ xs) key other word ne = cases (get_put_other xs key other word ne) (slice_cmp nat_cmp x.key key) refl
  where
    new : Item
    new = record { key = key; word = word }

    cases : get_in (put_in xs key word) other ≡ get_in xs other → (o : Ordering) → slice_cmp nat_cmp x.key key ≡ o → get_in (by_order o (x ∷ put_in xs key word) (new ∷ xs) (new ∷ x ∷ xs)) other ≡ get_in (x ∷ xs) other
    cases more Less e = ap (λ t. by_order (slice_cmp nat_cmp x.key other) t (Some x.word) None) more
    cases more Equal e =
        let same : x.key ≡ key = exact_bytes x.key key e in
        elim (key_cases key other) [
          | inl lt ↦ at_less key other (get_in xs other) (Some word) None lt ∙ sym (at_less x.key other (get_in xs other) (Some x.word) None (subst (λ k. IsBelow k other) (sym same) lt))
          | inr r ↦ elim r [
            | inl eq ↦ absurd (ne (sym eq))
            | inr gt ↦ at_greater key other (get_in xs other) (Some word) None gt ∙ sym (at_greater x.key other (get_in xs other) (Some x.word) None (subst (IsBelow other) (sym same) gt))
          ]
        ]
    cases more Greater e =
        let above : IsBelow key x.key = flipped x.key key e in
        elim (key_cases key other) [
          | inl lt ↦ at_less key other (get_in (x ∷ xs) other) (Some word) None lt
          | inr r ↦ elim r [
            | inl eq ↦ absurd (ne (sym eq))
            | inr gt ↦ at_greater key other (get_in (x ∷ xs) other) (Some word) None gt ∙ sym (at_greater x.key other (get_in xs other) (Some x.word) None (below_then other key x.key gt above))
          ]
        ]
