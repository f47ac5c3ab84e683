-- How often a number stands in lists that are joined, one for each cache, and what becomes of it where one of them changes.
use Rattle.std.proofs.Common.{◌≡◌, ◌≢◌, ℕ, zero, suc, ◌+◌, ◌<◌, ◌≤◌, List, ◌++◌, refl, ap, ◌∙◌, inl, inr, arith}
use Rattle.std.specs.List.{flat_map, range_with_len}
use Rattle.std.proofs.lemmas.Bool.{cases_eq, cases_lt}
use Rattle.pm_types.specs.declared.limits.TheConstants.{CACHES}
use Rattle.pm_pages.specs.Chains.{times}
use Rattle.pm_pages.proofs.ChainWalks.{times-append}
use Rattle.pm_part.specs.LaidOut.{joined}

-- the lists are those of `f` but for one cache
abbrev pub SameBut : ℕ → (ℕ → List ℕ) → (ℕ → List ℕ) → Type 0
SameBut cache f g = (c : ℕ) → c ≢ cache → g c ≡ f c

cut : (f : ℕ → List ℕ) (from n j : ℕ) → times j (flat_map f (range_with_len from (suc n))) ≡ times j (f from) + times j (flat_map f (range_with_len (from + 1) n))
cut f from n j =
    let whole : times j (flat_map f (range_with_len from (suc n))) ≡ times j (f from ++ flat_map f (range_with_len (from + 1) n)) = refl in
    whole ∙ times-append j (f from) (flat_map f (range_with_len (from + 1) n))

outside : (f g : ℕ → List ℕ) (from n cache j : ℕ) → SameBut cache f g → cache < from → times j (flat_map g (range_with_len from n)) ≡ times j (flat_map f (range_with_len from n))
outside f g from zero cache j same lt = refl
outside f g from (suc n) cache j same lt =
    omega (arith, cut f from n j, cut g from n j, ap (λ l. times j l) (same from (λ e. omega (arith, e, lt))), outside f g (from + 1) n cache j same (omega (arith, lt)))

set_at : (f g : ℕ → List ℕ) (from n cache j : ℕ) → SameBut cache f g → from ≤ cache → cache < from + n
    → times j (flat_map g (range_with_len from n)) + times j (f cache) ≡ times j (flat_map f (range_with_len from n)) + times j (g cache)
set_at f g from zero cache j same low high = absurd (omega (arith, low, high))
set_at f g from (suc n) cache j same low high = elim (cases_eq from cache) [
  | inl here ↦ omega (arith, cut f from n j, cut g from n j, ap (λ c. times j (f c)) here, ap (λ c. times j (g c)) here, outside f g (from + 1) n cache j same (omega (arith, here)))
  | inr other ↦ omega (arith, cut f from n j, cut g from n j, ap (λ l. times j l) (same from other), set_at f g (from + 1) n cache j same (later from cache other low) (omega (arith, high)))
]
  where
    later : (from cache : ℕ) → from ≢ cache → from ≤ cache → from + 1 ≤ cache
    later from cache other low = elim (cases_lt from cache) [ inl lt ↦ omega (arith, lt) | inr ge ↦ absurd (other (omega (arith, low, ge))) ]

-- where the list of one cache is another one
pub times_set : (f g : ℕ → List ℕ) (cache j : ℕ) → SameBut cache f g → cache < CACHES → times j (joined g) + times j (f cache) ≡ times j (joined f) + times j (g cache)
times_set f g cache j same few = set_at f g 0 CACHES cache j same (omega arith) few

among : (f : ℕ → List ℕ) (from n j : ℕ) → 1 ≤ times j (flat_map f (range_with_len from n)) → (c : ℕ) × (from ≤ c) × (c < from + n) × (1 ≤ times j (f c))
among f from zero j some = absurd (omega (arith, some))
among f from (suc n) j some = elim (cases_lt 0 (times j (f from))) [
  | inl here ↦ (from, omega arith, omega arith, omega (arith, here))
  | inr none ↦ (let rest = among f (from + 1) n j (omega (arith, some, none, cut f from n j)) in (rest.0, omega (arith, rest.1), omega (arith, rest.2), rest.3))
]

-- what stands in them stands in that of a cache
pub in_one : (f : ℕ → List ℕ) (j : ℕ) → 1 ≤ times j (joined f) → (c : ℕ) × (c < CACHES) × (1 ≤ times j (f c))
in_one f j some = (let one = among f 0 CACHES j some in (one.0, omega (arith, one.2), one.3))

inside : (f : ℕ → List ℕ) (from n cache j : ℕ) → from ≤ cache → cache < from + n → times j (f cache) ≤ times j (flat_map f (range_with_len from n))
inside f from zero cache j low high = absurd (omega (arith, low, high))
inside f from (suc n) cache j low high = elim (cases_eq from cache) [
  | inl here ↦ omega (arith, cut f from n j, ap (λ c. times j (f c)) here)
  | inr other ↦ omega (arith, cut f from n j, inside f (from + 1) n cache j (later from cache other low) (omega (arith, high)))
]
  where
    later : (from cache : ℕ) → from ≢ cache → from ≤ cache → from + 1 ≤ cache
    later from cache other low = elim (cases_lt from cache) [ inl lt ↦ omega (arith, lt) | inr ge ↦ absurd (other (omega (arith, low, ge))) ]

-- and the other way round
pub one_in : (f : ℕ → List ℕ) (cache j : ℕ) → cache < CACHES → times j (f cache) ≤ times j (joined f)
one_in f cache j few = inside f 0 CACHES cache j (omega arith) few
