-- What holds of some element of a list, of each one, and of each two, by recursion on the list.
use Rattle.std.proofs.Common.{◌≡◌, ℕ, zero, suc, ◌<◌, ◌⊎◌, List, [], ◌∷◌, ◌++◌, length, refl, sym, subst, inl, inr, arith}
use Rattle.std.specs.Prelude.{All, Any, AllPairs}
use Rattle.std.specs.List.{slice_index_or}

-- it holds of some element
abbrev pub Holds : {A : Type 0} → (A → Type 0) → List A → Type 0
Holds P [] = ⊥
Holds P (x ∷ xs) = P x ⊎ Holds P xs

-- it holds of each element
abbrev pub Each : {A : Type 0} → (A → Type 0) → List A → Type 0
Each P [] = Unit {0}
Each P (x ∷ xs) = P x × Each P xs

pub each_of : {A : Type 0} (P : A → Type 0) (xs : List A) → All P xs → Each P xs
each_of P [] all = tt
each_of P (x ∷ xs) all = (all 0 x (omega arith), each_of P xs (λ k d lt. all (suc k) d (omega (arith, lt))))

pub all_of : {A : Type 0} (P : A → Type 0) (xs : List A) → Each P xs → All P xs
all_of P [] each k d lt = absurd (omega (arith, lt))
all_of P (x ∷ xs) each zero d lt = each.0
all_of P (x ∷ xs) each (suc k) d lt = all_of P xs each.1 k d (omega (arith, lt))

holds_at : {A : Type 0} (P : A → Type 0) (xs : List A) (k : ℕ) (x : A) → k < length xs → slice_index_or xs k x ≡ x → P x → Holds P xs
holds_at P [] k x lt is p = absurd (omega (arith, lt))
holds_at P (y ∷ ys) zero x lt is p = inl (subst P (sym is) p)
holds_at P (y ∷ ys) (suc k) x lt is p = inr (holds_at P ys k x (omega (arith, lt)) is p)

pub holds_of : {A : Type 0} (P : A → Type 0) (xs : List A) → Any P xs → Holds P xs
holds_of P xs any = holds_at P xs any.0 any.1 any.2 any.3 any.4

pub any_of : {A : Type 0} (P : A → Type 0) (xs : List A) → Holds P xs → Any P xs
any_of P [] h = absurd h
any_of P (x ∷ xs) h = elim h [
  | inl here ↦ (0, x, omega arith, refl, here)
  | inr later ↦ (let a = any_of P xs later in (suc a.0, a.1, omega (arith, a.2), a.3, a.4))
]

-- each two of a list: its first element and each later one, and each two of the others
pub first_pairs : {A : Type 0} (R : A → A → Type 0) (x : A) (xs : List A) → AllPairs R (x ∷ xs) → Each (R x) xs
first_pairs R x xs pairs = each_of (R x) xs (λ k d lt. pairs 0 (suc k) d (omega arith) (omega (arith, lt)))

pub later_pairs : {A : Type 0} (R : A → A → Type 0) (x : A) (xs : List A) → AllPairs R (x ∷ xs) → AllPairs R xs
later_pairs R x xs pairs = λ i j d lt short. pairs (suc i) (suc j) d (omega (arith, lt)) (omega (arith, short))

pub each_map : {A : Type 0} (P Q : A → Type 0) (xs : List A) → ((x : A) → P x → Q x) → Each P xs → Each Q xs
each_map P Q [] f each = tt
each_map P Q (x ∷ xs) f each = (f x each.0, each_map P Q xs f each.1)

pub each_join : {A : Type 0} (P : A → Type 0) (xs ys : List A) → Each P xs → Each P ys → Each P (xs ++ ys)
each_join P [] ys each more = more
each_join P (x ∷ xs) ys each more = (each.0, each_join P xs ys each.1 more)

pub each_left : {A : Type 0} (P : A → Type 0) (xs ys : List A) → Each P (xs ++ ys) → Each P xs
each_left P [] ys each = tt
each_left P (x ∷ xs) ys each = (each.0, each_left P xs ys each.1)

pub each_middle : {A : Type 0} (P : A → Type 0) (xs : List A) (y : A) (ys : List A) → Each P (xs ++ y ∷ ys) → P y
each_middle P [] y ys each = each.0
each_middle P (x ∷ xs) y ys each = each_middle P xs y ys each.1

-- where something holds of some element, and something else of each, both hold of one
pub meets : {A : Type 0} (P Q : A → Type 0) (C : Type 0) (xs : List A) → Each P xs → Holds Q xs → ((x : A) → P x → Q x → C) → C
meets P Q C [] each any then = absurd any
meets P Q C (x ∷ xs) each any then = elim any [ inl here ↦ then x each.0 here | inr later ↦ meets P Q C xs each.1 later then ]
