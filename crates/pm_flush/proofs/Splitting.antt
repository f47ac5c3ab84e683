-- A list that is split into two, and what is in the parts.
use Rattle.std.proofs.Common.{◌≡◌, ◌+◌, List, [], ◌∷◌, ◌++◌, length, map, refl, sym, ap, subst, inl, inr, ⊎_elim, arith}
use Rattle.std.specs.Prelude.{All, Contains}
use Rattle.std.proofs.lemmas.List.Elements.{All-nil, All-cons, All-weaker, Contains-append_right}
use Rattle.pm_flush.specs.Jobs.{Splits}

-- one more goes to the first part, or to the second
pub split_first : {X : Type 0} (xs one other : List X) (x : X) → Splits xs one other → Splits (xs ++ x ∷ []) (one ++ x ∷ []) other
split_first {X} [] one other x s = let none : List X = [] in inl (none, ap (λ ys. ys ++ x ∷ []) s.0, (refl, s.1))
split_first {X} (y ∷ xs) one other x s = ⊎_elim
    (λ p. inl (p.0 ++ x ∷ [], ap (λ (ys : List X). ys ++ x ∷ []) p.1, split_first xs p.0 other x p.2))
    (λ p. inr (p.0, p.1, split_first xs one p.0 x p.2)) s

pub split_second : {X : Type 0} (xs one other : List X) (x : X) → Splits xs one other → Splits (xs ++ x ∷ []) one (other ++ x ∷ [])
split_second {X} [] one other x s = let none : List X = [] in inr (none, ap (λ ys. ys ++ x ∷ []) s.1, (s.0, refl))
split_second {X} (y ∷ xs) one other x s = ⊎_elim
    (λ p. inl (p.0, p.1, split_second xs p.0 other x p.2))
    (λ p. inr (p.0 ++ x ∷ [], ap (λ (ys : List X). ys ++ x ∷ []) p.1, split_second xs one p.0 x p.2)) s

-- what is made of each goes the same way
pub split_map : {X Y : Type 0} (f : X → Y) (xs one other : List X) → Splits xs one other → Splits (map f xs) (map f one) (map f other)
split_map f [] one other s = (ap (map f) s.0, ap (map f) s.1)
split_map f (x ∷ xs) one other s = ⊎_elim
    (λ p. inl (map f p.0, ap (map f) p.1, split_map f xs p.0 other p.2))
    (λ p. inr (map f p.0, ap (map f) p.1, split_map f xs one p.0 p.2)) s

pub split_length : {X : Type 0} (xs one other : List X) → Splits xs one other → length xs ≡ length one + length other
split_length [] one other s = let a : length one ≡ 0 = ap length s.0 in let b : length other ≡ 0 = ap length s.1 in omega arith
split_length {X} (x ∷ xs) one other s = ⊎_elim
    (λ p. let a : length one ≡ length (x ∷ p.0) = ap length p.1 in let b = split_length xs p.0 other p.2 in omega arith)
    (λ p. let a : length other ≡ length (x ∷ p.0) = ap length p.1 in let b = split_length xs one p.0 p.2 in omega arith) s

-- what is in a part is in the list
first_in : {X : Type 0} (x : X) (xs : List X) → Contains (x ∷ xs) x
first_in x xs = (0, omega arith, refl)

rest_in : {X : Type 0} (x : X) (xs ys : List X) → All (Contains xs) ys → All (Contains (x ∷ xs)) ys
rest_in x xs ys all = All-weaker (Contains xs) (Contains (x ∷ xs)) (λ y h. Contains-append_right (x ∷ []) xs y h) ys all

nothing_in : {X : Type 0} (xs ys : List X) → ys ≡ [] → All (Contains xs) ys
nothing_in {X} xs ys e = subst (λ (zs : List X). All (Contains xs) zs) (sym e) (All-nil (Contains xs))

part_in : {X : Type 0} (x : X) (xs ys rest : List X) → ys ≡ x ∷ rest → All (Contains xs) rest → All (Contains (x ∷ xs)) ys
part_in {X} x xs ys rest e all = subst (λ (zs : List X). All (Contains (x ∷ xs)) zs) (sym e) (All-cons (Contains (x ∷ xs)) x rest (first_in x xs) (rest_in x xs rest all))

pub parts_in : {X : Type 0} (xs one other : List X) → Splits xs one other → All (Contains xs) one × All (Contains xs) other
parts_in [] one other s = (nothing_in [] one s.0, nothing_in [] other s.1)
parts_in (x ∷ xs) one other s = ⊎_elim
    (λ p. let h = parts_in xs p.0 other p.2 in (part_in x xs one p.0 p.1 h.0, rest_in x xs other h.1))
    (λ p. let h = parts_in xs one p.0 p.2 in (rest_in x xs one h.0, part_in x xs other p.0 p.1 h.1)) s
