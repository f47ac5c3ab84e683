-- Sums over a range of numbers.
use Rattle.std.proofs.Common.{◌≡◌, ◌≢◌, ℕ, zero, suc, ◌+◌, ◌<◌, ◌≤◌, ◌==◌, List, [], ◌∷◌, length, refl, sym, ap, ◌∙◌, inl, inr, arith}
use Rattle.std.specs.Prelude.{if◌then◌else◌}
use Rattle.std.specs.List.{flat_map, range_with_len}
use Rattle.std.proofs.lemmas.Bool.{cases_eq, cases_lt, eq-eqb, ne_eqb}
use Rattle.std.proofs.lemmas.List.{length-append}
use Rattle.pm_pages.specs.Chains.{times}
use Rattle.pm_pages.proofs.ChainWalks.{times_here, times_other}

-- the values from one number on, of so many numbers, added up
unfoldable pub total : (ℕ → ℕ) → ℕ → ℕ → ℕ
total f from zero = 0
total f from (suc n) = f from + total f (from + 1) n

-- each is at most the other
pub total_le : (f g : ℕ → ℕ) (from n : ℕ) → ((k : ℕ) → from ≤ k → k < from + n → f k ≤ g k) → total f from n ≤ total g from n
unfolding total
total_le f g from zero each = omega arith
total_le f g from (suc n) each = omega (arith, each from (omega arith) (omega arith), total_le f g (from + 1) n (λ k low high. each k (omega (arith, low)) (omega (arith, high))))

-- sums add up
pub total_add : (f g h : ℕ → ℕ) (from n : ℕ) → ((k : ℕ) → from ≤ k → k < from + n → h k ≡ f k + g k) → total h from n ≡ total f from n + total g from n
unfolding total
total_add f g h from zero each = omega arith
total_add f g h from (suc n) each = omega (arith, each from (omega arith) (omega arith), total_add f g h (from + 1) n (λ k low high. each k (omega (arith, low)) (omega (arith, high))))

-- as many numbers as there are
pub total_one : (f : ℕ → ℕ) (from n : ℕ) → ((k : ℕ) → from ≤ k → k < from + n → f k ≡ 1) → total f from n ≡ n
unfolding total
total_one f from zero each = refl
total_one f from (suc n) each = omega (arith, each from (omega arith) (omega arith), total_one f (from + 1) n (λ k low high. each k (omega (arith, low)) (omega (arith, high))))

pub total_none : (f : ℕ → ℕ) (from n : ℕ) → ((k : ℕ) → from ≤ k → k < from + n → f k ≡ 0) → total f from n ≡ 0
unfolding total
total_none f from zero each = refl
total_none f from (suc n) each = omega (arith, each from (omega arith) (omega arith), total_none f (from + 1) n (λ k low high. each k (omega (arith, low)) (omega (arith, high))))

later : (from at : ℕ) → from ≢ at → from ≤ at → from + 1 ≤ at
later from at other low = elim (cases_lt from at) [ inl lt ↦ omega (arith, lt) | inr ge ↦ absurd (other (omega (arith, low, ge))) ]

-- one value alone is another one
pub total_set : (f g : ℕ → ℕ) (from n at : ℕ) → from ≤ at → at < from + n → ((k : ℕ) → k ≢ at → g k ≡ f k) → total g from n + f at ≡ total f from n + g at
unfolding total
total_set f g from zero at low high same = absurd (omega (arith, low, high))
total_set f g from (suc n) at low high same = elim (cases_eq from at) [
  | inl here ↦ omega (arith, ap f here, ap g here, rest (from + 1) n (omega (arith, here)))
  | inr other ↦ omega (arith, same from other, total_set f g (from + 1) n at (later from at other low) (omega (arith, high)) same)
]
  where
    rest : (start k : ℕ) → at < start → total g start k ≡ total f start k
    rest start zero lt = refl
    rest start (suc k) lt = omega (arith, same start (λ e. omega (arith, e, lt)), rest (start + 1) k (omega (arith, lt)))

-- the length of lists that are joined
pub total_flat : {A : Type 0} (f : ℕ → List A) (from n : ℕ) → length (flat_map f (range_with_len from n)) ≡ total (λ k. length (f k)) from n
unfolding total
total_flat f from zero = refl
total_flat f from (suc n) = length-append (f from) (flat_map f (range_with_len (from + 1) n)) ∙ ap (λ m. length (f from) + m) (total_flat f (from + 1) n)

-- 1 at one number
abbrev one_at : ℕ → ℕ → ℕ
one_at x j = if x == j then 1 else 0

-- how often each number stands in a list gives the list's length
pub total_times : (xs : List ℕ) (from n : ℕ) → ((j : ℕ) → 1 ≤ times j xs → (from ≤ j) × (j < from + n)) → total (λ j. times j xs) from n ≡ length xs
total_times [] from n within = total_none (λ j. 0) from n (λ k low high. refl)
total_times (x ∷ xs) from n within =
    let here = within x (omega (arith, times_here x xs)) in
    omega (
      arith,
      total_add (one_at x) (λ j. times j xs) (λ j. times j (x ∷ xs)) from n (λ k low high. refl),
      one_once from n here.0 here.1,
      total_times xs from n (λ j there. within j (omega (arith, there, more_here j))),
    )
  where
    more_here : (j : ℕ) → times j xs ≤ times j (x ∷ xs)
    more_here j = elim (cases_eq x j) [
      | inl e ↦ omega (arith, times_here j xs, ap (λ y. times j (y ∷ xs)) e)
      | inr ne ↦ omega (arith, times_other j x xs ne)
    ]

    at_x : one_at x x ≡ 1
    at_x = simp (eq-eqb x x refl) refl

    one_once : (start k : ℕ) → start ≤ x → x < start + k → total (one_at x) start k ≡ 1
    one_once start k low high = omega (
      arith,
      total_set (λ j. 0) (one_at x) start k x low high (λ j other. simp (ne_eqb x j (λ e. other (sym e))) refl),
      total_none (λ j. 0) start k (λ j lo hi. refl),
      at_x,
    )
