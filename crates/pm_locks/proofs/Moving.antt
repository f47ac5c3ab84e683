-- The leases move into their slots and back, and out of a table that is closed.
use Rattle.std.proofs.Common.{◌≡◌, List, [], ◌∷◌, ◌++◌, map, ap, sym, refl, ◌∙◌, Option, Some, None}
use Rattle.std.specs.Prelude.{reverse}
use Rattle.std.proofs.lemmas.List.{reverse-append}
use Rattle.pm_region.specs.Lease.{Leased}

-- what stands among leases in slots is a lease
pub is_lease : (before all : List Leased) (slot : Option Leased) (rest : List (Option Leased)) → map Some before ++ slot ∷ rest ≡ map Some all → (y : Leased) × (slot ≡ Some y)
is_lease [] [] slot rest e = absurd (cc e)
is_lease [] (y ∷ ys) slot rest e = (y, cc e)
is_lease (b ∷ bs) [] slot rest e = absurd (cc e)
is_lease (b ∷ bs) (y ∷ ys) slot rest e = is_lease bs ys slot rest (cc e)

pub some_injective : (l m : List Leased) → map Some l ≡ map Some m → l ≡ m
some_injective [] [] e = refl
some_injective [] (y ∷ ys) e = absurd (cc e)
some_injective (x ∷ xs) [] e = absurd (cc e)
some_injective (x ∷ xs) (y ∷ ys) e = let a : x ≡ y = cc e in let b : map Some xs ≡ map Some ys = cc e in (λ i. a i ∷ some_injective xs ys b i)

pub none_lease : (y : Leased) → None ≡ Some y → ⊥
none_lease y e = cc e

-- a slot that is taken from the end of the slots isn't empty
pub no_gap : (before all : List Leased) (slots front first : List (Option Leased)) (slot : Option Leased) → map Some before ++ reverse slots ≡ first → first ≡ map Some all → slots ≡ front ++ slot ∷ [] → slot ≡ None → ⊥
no_gap before all slots front first slot e full is none =
    let y = is_lease before all slot (reverse front) (ap (λ l. map Some before ++ l) (sym (ap reverse is ∙ reverse-append front (slot ∷ []))) ∙ e ∙ full) in
    none_lease y.0 (sym none ∙ y.1)
