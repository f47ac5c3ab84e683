-- Walks along a chain of pages: how long they are, and what they pass.
use Rattle.std.proofs.Common.{◌≡◌, ◌≢◌, ℕ, zero, suc, ◌+◌, ◌<◌, ◌≤◌, List, [], ◌∷◌, ◌++◌, length, refl, sym, ap, subst, ◌∙◌, inl, inr, arith}
use Rattle.std.specs.Prelude.{All, nat_lt, if◌then◌else◌}
use Rattle.std.proofs.lemmas.Bool.{cases_eq, cases_lt, eq-eqb, ne_eqb, lt-ltb, le-ltb}
use Rattle.std.proofs.lemmas.List.Elements.{All-nil, All-cons, All-head, All-tail}
use Rattle.pm_pages.specs.Chains.{times, walk}

pub times-append : (j : ℕ) (xs ys : List ℕ) → times j (xs ++ ys) ≡ times j xs + times j ys
times-append j [] ys = omega arith
times-append j (x ∷ xs) ys = omega (arith, times-append j xs ys)

pub times_here : (j : ℕ) (xs : List ℕ) → times j (j ∷ xs) ≡ 1 + times j xs
times_here j xs = simp (eq-eqb j j refl) refl

pub times_other : (j i : ℕ) (xs : List ℕ) → i ≢ j → times j (i ∷ xs) ≡ times j xs
times_other j i xs ne = simp (ne_eqb i j ne) (omega arith)

-- what stands in a list stands in a longer one
pub more : (x j : ℕ) (xs : List ℕ) → 1 ≤ times j xs → 1 ≤ times j (x ∷ xs)
more x j xs some = omega (arith, some)

-- what holds of each number of a list holds of one that stands in it, and the other way round
pub stands : (P : ℕ → Type 0) (xs : List ℕ) → All P xs → (j : ℕ) → 1 ≤ times j xs → P j
stands P [] all j some = absurd (omega (arith, some))
stands P (x ∷ xs) all j some = elim (cases_eq x j) [
  | inl e ↦ subst P e (All-head P x xs all)
  | inr ne ↦ stands P xs (All-tail P x xs all) j (omega (arith, some, times_other j x xs ne))
]

pub all_stand : (P : ℕ → Type 0) (xs : List ℕ) → ((j : ℕ) → 1 ≤ times j xs → P j) → All P xs
all_stand P [] each = All-nil P
all_stand P (x ∷ xs) each =
    All-cons P x xs (each x (omega (arith, times_here x xs)))
    (all_stand P xs (λ j some. each j (more j some)))
  where
    more : (j : ℕ) → 1 ≤ times j xs → 1 ≤ times j (x ∷ xs)
    more j some = omega (arith, some)

-- how many numbers of a list are below n
under : ℕ → List ℕ → ℕ
under n [] = 0
under n (x ∷ xs) = (if nat_lt x n then 1 else 0) + under n xs

under-zero : (xs : List ℕ) → under 0 xs ≡ 0
unfolding under
under-zero [] = refl
under-zero (x ∷ xs) = simp (le-ltb x 0 (omega arith)) (omega (arith, under-zero xs))

under-suc : (n : ℕ) (xs : List ℕ) → under (suc n) xs ≡ under n xs + times n xs
unfolding under
under-suc n [] = omega arith
under-suc n (x ∷ xs) = elim (cases_lt x n) [
  | inl lt ↦
      let ne = times_other n x xs (λ e. omega (arith, e, lt)) in
      simp (lt-ltb x n lt, lt-ltb x (suc n) (omega (arith, lt))) (omega (arith, under-suc n xs, ne))
  | inr le ↦ elim (cases_eq x n) [
    | inl e ↦
        let here : times n (x ∷ xs) ≡ 1 + times n xs = ap (λ y. times n (y ∷ xs)) e ∙ times_here n xs in
        simp (le-ltb x n le, lt-ltb x (suc n) (omega (arith, e))) (omega (arith, under-suc n xs, here))
    | inr ne ↦
        let away = times_other n x xs ne in
        simp (le-ltb x n le, le-ltb x (suc n) (omega (arith, ne, le))) (omega (arith, under-suc n xs, away))
  ]
]

under-le : (n : ℕ) (xs : List ℕ) → ((j : ℕ) → times j xs ≤ 1) → under n xs ≤ n
under-le zero xs once = omega (arith, under-zero xs)
under-le (suc n) xs once = omega (arith, under-suc n xs, under-le n xs once, once n)

under-all : (n : ℕ) (xs : List ℕ) → All (λ x. x < n) xs → under n xs ≡ length xs
unfolding under
under-all n [] below = refl
under-all n (x ∷ xs) below = simp (lt-ltb x n (All-head (λ x. x < n) x xs below)) (omega (arith, under-all n xs (All-tail (λ x. x < n) x xs below)))

-- numbers below n, each once, are n at most
pub few : (n : ℕ) (xs : List ℕ) → ((j : ℕ) → times j xs ≤ 1) → ((j : ℕ) → 1 ≤ times j xs → j < n) → length xs ≤ n
few n xs once below = omega (arith, under-all n xs (all_stand (λ x. x < n) xs below), under-le n xs once)

-- a walk ends at 0, and goes on elsewhere
pub walk_none : (f : ℕ → ℕ) (n : ℕ) → walk f n 0 ≡ []
walk_none f zero = refl
walk_none f (suc n) = refl

pub walk_on : (f : ℕ → ℕ) (n at : ℕ) → at ≢ 0 → walk f (suc n) at ≡ at ∷ walk f n (f at)
walk_on f n at away = simp (ne_eqb at 0 away) refl

-- no walk passes 0
pub walk_some : (f : ℕ → ℕ) (n at j : ℕ) → 1 ≤ times j (walk f n at) → 1 ≤ j
walk_some f zero at j some = absurd (omega (arith, some))
walk_some f (suc n) at j some = elim (cases_eq at 0) [
  | inl e ↦ (let none = ap (λ i. times j (walk f (suc n) i)) e in absurd (omega (arith, some, none)))
  | inr away ↦ (let on = ap (λ t. times j t) (walk_on f n at away) in
      elim (cases_eq at j) [
        | inl e ↦ omega (arith, e, away)
        | inr ne ↦ walk_some f n (f at) j (omega (arith, some, on, times_other j at (walk f n (f at)) ne))
      ])
]

-- a walk that ended goes no further
pub walk_ended : (f : ℕ → ℕ) (n at : ℕ) → length (walk f n at) < n → walk f (suc n) at ≡ walk f n at
walk_ended f zero at short = absurd (omega (arith, short))
walk_ended f (suc n) at short = elim (cases_eq at 0) [
  | inl e ↦ (λ k. walk f (suc (suc n)) (e k)) ∙ sym (λ k. walk f (suc n) (e k))
  | inr away ↦
      let on = walk_on f n at away in
      walk_on f (suc n) at away ∙ ap (λ t. at ∷ t) (walk_ended f n (f at) (omega (arith, short, ap length on))) ∙ sym on
]

pub walk_shorter : (f : ℕ → ℕ) (n at : ℕ) → length (walk f (suc n) at) ≤ n → walk f (suc n) at ≡ walk f n at
walk_shorter f zero at short = elim (cases_eq at 0) [
  | inl e ↦ (λ k. walk f 1 (e k))
  | inr away ↦ absurd (omega (arith, short, ap length (walk_on f 0 at away)))
]
walk_shorter f (suc n) at short = elim (cases_eq at 0) [
  | inl e ↦ (λ k. walk f (suc (suc n)) (e k)) ∙ sym (λ k. walk f (suc n) (e k))
  | inr away ↦
      let on = walk_on f (suc n) at away in
      on ∙ ap (λ t. at ∷ t) (walk_shorter f n (f at) (omega (arith, short, ap length on))) ∙ sym (walk_on f n at away)
]

-- two walks along which each page names the same page are one
pub walk_same : (f g : ℕ → ℕ) (n at : ℕ) → ((j : ℕ) → 1 ≤ times j (walk f n at) → g j ≡ f j) → walk g n at ≡ walk f n at
walk_same f g zero at same = refl
walk_same f g (suc n) at same = elim (cases_eq at 0) [
  | inl e ↦ (λ k. walk g (suc n) (e k)) ∙ sym (λ k. walk f (suc n) (e k))
  | inr away ↦
      let on = walk_on f n at away in
      let stays : (j : ℕ) → times j (walk f (suc n) at) ≡ times j (at ∷ walk f n (f at)) = λ j. ap (λ t. times j t) on in
      let here : g at ≡ f at = same at (omega (arith, stays at, times_here at (walk f n (f at)))) in
      walk_on g n at away
      ∙ ap (λ i. at ∷ walk g n i) here
      ∙ ap (λ t. at ∷ t) (walk_same f g n (f at) (λ j some. same j (more j some (stays j))))
      ∙ sym on
]
  where
    more : (j : ℕ) → 1 ≤ times j (walk f n (f at)) → times j (walk f (suc n) at) ≡ times j (at ∷ walk f n (f at)) → 1 ≤ times j (walk f (suc n) at)
    more j some e = omega (arith, some, e)
