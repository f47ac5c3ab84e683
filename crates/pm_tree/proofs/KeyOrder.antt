-- Keys in their order.
use Rattle.std.proofs.Common.{◌≡◌, ℕ, ◌⊎◌, List, refl, sym, ap, subst, ◌∙◌, inl, inr, Less, Equal, Greater}
use Rattle.std.specs.declared.cmp.Ordering.{Ordering}
use Rattle.std.specs.Ordering.{nat_cmp, ordering_reverse}
use Rattle.std.specs.Cmp.Lexicographic.{slice_cmp}
use Rattle.std.proofs.lemmas.Cmp.{nat_list_cmp_total, tied_itself}
use Rattle.std.proofs.lemmas.Map.Lookups.{exact_bytes}
use Rattle.pm_btpage.specs.IndexPages.{IsBelow}
use Rattle.pm_tree.specs.Maps.{by_order}

pub below_then : (a b c : List ℕ) → IsBelow a b → IsBelow b c → IsBelow a c
below_then a b c x y = nat_list_cmp_total.trans a b c x y

pub greater : (a b : List ℕ) → IsBelow b a → slice_cmp nat_cmp a b ≡ Greater
greater a b h = nat_list_cmp_total.antisymm a b ∙ ap ordering_reverse h

pub equal : (a b : List ℕ) → a ≡ b → slice_cmp nat_cmp a b ≡ Equal
equal a b e = subst (λ x. slice_cmp nat_cmp a x ≡ Equal) e (tied_itself nat_list_cmp_total a)

pub not_below_itself : (a : List ℕ) → IsBelow a a → ⊥
not_below_itself a h = (let e = sym h ∙ tied_itself nat_list_cmp_total a in absurd (cc e))

pub key_cases : (a b : List ℕ) → IsBelow a b ⊎ (a ≡ b) ⊎ IsBelow b a
key_cases a b = cases (slice_cmp nat_cmp a b) refl
  where
    cases : (o : Ordering) → slice_cmp nat_cmp a b ≡ o → IsBelow a b ⊎ (a ≡ b) ⊎ IsBelow b a
    cases Less e = inl e
    cases Equal e = inr (inl (exact_bytes a b e))
    cases Greater e = inr (inr (nat_list_cmp_total.antisymm b a ∙ ap ordering_reverse e))

-- below one that isn't above
pub below_upto : (m k key : List ℕ) → IsBelow m k → (IsBelow key k → ⊥) → IsBelow m key
below_upto m k key below upto = elim (key_cases k key) [
  | inl lt ↦ below_then m k key below lt
  | inr r ↦ elim r [ inl e ↦ subst (IsBelow m) e below | inr gt ↦ absurd (upto gt) ]
]

-- above one that isn't above
pub above_from : (key k m : List ℕ) → IsBelow key k → (IsBelow m k → ⊥) → IsBelow key m
above_from key k m below from = elim (key_cases k m) [
  | inl lt ↦ below_then key k m below lt
  | inr r ↦ elim r [ inl e ↦ subst (IsBelow key) e below | inr gt ↦ absurd (from gt) ]
]

-- what isn't below stays so along a rise
pub from_then : (m k key : List ℕ) → (IsBelow key k → ⊥) → IsBelow m k → IsBelow key m → ⊥
from_then m k key from below h = from (below_then key m k h below)

pub at_less : {A : Type 0} (a b : List ℕ) (x y z : A) → IsBelow a b → by_order (slice_cmp nat_cmp a b) x y z ≡ x
at_less a b x y z h = ap (λ o. by_order o x y z) h

pub at_equal : {A : Type 0} (a b : List ℕ) (x y z : A) → a ≡ b → by_order (slice_cmp nat_cmp a b) x y z ≡ y
at_equal a b x y z h = ap (λ o. by_order o x y z) (equal a b h)

pub at_greater : {A : Type 0} (a b : List ℕ) (x y z : A) → IsBelow b a → by_order (slice_cmp nat_cmp a b) x y z ≡ z
at_greater a b x y z h = ap (λ o. by_order o x y z) (greater a b h)
