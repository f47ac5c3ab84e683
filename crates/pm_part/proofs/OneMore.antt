-- A list with one element more: what holds of its elements, of each and of some, and of each two.
use Rattle.std.proofs.Common.{◌≡◌, zero, suc, ◌⊎◌, List, [], ◌∷◌, ◌++◌, length, refl, ap, inl, inr, arith}
use Rattle.std.specs.Prelude.{AllPairs}
use Rattle.pm_pages.proofs.Quantified.{Holds, Each, all_of, first_pairs, later_pairs}

pub each_weaker : {A : Type 0} (P Q : A → Type 0) (xs : List A) → ((x : A) → P x → Q x) → Each P xs → Each Q xs
each_weaker P Q [] f each = tt
each_weaker P Q (x ∷ xs) f each = (f x each.0, each_weaker P Q xs f each.1)

pub holds_weaker : {A : Type 0} (P Q : A → Type 0) (xs : List A) → ((x : A) → P x → Q x) → Holds P xs → Holds Q xs
holds_weaker P Q [] f any = any
holds_weaker P Q (x ∷ xs) f any = elim any [ inl here ↦ inl (f x here) | inr later ↦ inr (holds_weaker P Q xs f later) ]

-- what holds of each element holds of one of which something else holds
pub met : {A C : Type 0} (P Q : A → Type 0) (xs : List A) → Each P xs → Holds Q xs → ((x : A) → P x → Q x → C) → C
met P Q [] each any f = absurd any
met P Q (x ∷ xs) each any f = elim any [ inl here ↦ f x each.0 here | inr later ↦ met P Q xs each.1 later f ]

-- each element is one of the list
pub each_among : {A : Type 0} (xs : List A) → Each (λ x. Holds (λ y. y ≡ x) xs) xs
each_among [] = tt
each_among (x ∷ xs) = (inl refl, each_weaker (λ z. Holds (λ y. y ≡ z) xs) (λ z. Holds (λ y. y ≡ z) (x ∷ xs)) xs (λ z h. inr h) (each_among xs))

-- it holds of each element and each later one
abbrev pub EachPair : {A : Type 0} → (A → A → Type 0) → List A → Type 0
EachPair R [] = Unit {0}
EachPair R (x ∷ xs) = Each (R x) xs × EachPair R xs

pub each_pair_of : {A : Type 0} (R : A → A → Type 0) (xs : List A) → AllPairs R xs → EachPair R xs
each_pair_of R [] pairs = tt
each_pair_of R (x ∷ xs) pairs = (first_pairs R x xs pairs, each_pair_of R xs (later_pairs R x xs pairs))

pub all_pairs_of : {A : Type 0} (R : A → A → Type 0) (xs : List A) → EachPair R xs → AllPairs R xs
all_pairs_of R [] pairs i j d less short = absurd (omega (arith, short))
all_pairs_of R (x ∷ xs) pairs zero zero d less short = absurd (omega (arith, less))
all_pairs_of R (x ∷ xs) pairs zero (suc j) d less short = all_of (R x) xs pairs.0 j d (omega (arith, short))
all_pairs_of R (x ∷ xs) pairs (suc i) zero d less short = absurd (omega (arith, less))
all_pairs_of R (x ∷ xs) pairs (suc i) (suc j) d less short = all_pairs_of R xs pairs.1 i j d (omega (arith, less)) (omega (arith, short))

-- around an element
pub around_less : {A : Type 0} (P : A → Type 0) (xs ys : List A) (x : A) → Each P (xs ++ x ∷ ys) → Each P (xs ++ ys)
around_less P [] ys x each = each.1
around_less P (z ∷ xs) ys x each = (each.0, around_less P xs ys x each.1)

pub around_one : {A : Type 0} (P : A → Type 0) (xs ys : List A) (x : A) → Each P (xs ++ x ∷ ys) → P x
around_one P [] ys x each = each.0
around_one P (z ∷ xs) ys x each = around_one P xs ys x each.1

pub around_more : {A : Type 0} (P : A → Type 0) (xs ys : List A) (x : A) → P x → Each P (xs ++ ys) → Each P (xs ++ x ∷ ys)
around_more P [] ys x here each = (here, each)
around_more P (z ∷ xs) ys x here each = (each.0, around_more P xs ys x here each.1)

pub around_some : {A : Type 0} (P : A → Type 0) (xs ys : List A) (x : A) → P x ⊎ Holds P (xs ++ ys) → Holds P (xs ++ x ∷ ys)
around_some P [] ys x any = any
around_some P (z ∷ xs) ys x any = elim any [
  | inl here ↦ inr (around_some P xs ys x (inl here))
  | inr rest ↦ elim rest [ inl front ↦ inl front | inr later ↦ inr (around_some P xs ys x (inr later)) ]
]

pub around_cases : {A : Type 0} (P : A → Type 0) (xs ys : List A) (x : A) → Holds P (xs ++ x ∷ ys) → P x ⊎ Holds P (xs ++ ys)
around_cases P [] ys x any = any
around_cases P (z ∷ xs) ys x any = elim any [
  | inl front ↦ inr (inl front)
  | inr later ↦ elim (around_cases P xs ys x later) [ inl here ↦ inl here | inr rest ↦ inr (inr rest) ]
]

pub around_length : {A : Type 0} (xs ys : List A) (x : A) → length (xs ++ x ∷ ys) ≡ suc (length (xs ++ ys))
around_length [] ys x = refl
around_length (z ∷ xs) ys x = ap suc (around_length xs ys x)
