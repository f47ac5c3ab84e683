-- A ring of frames, from the hand on.
use Rattle.std.proofs.Common.{◌≡◌, ◌≢◌, ℕ, ◌+◌, ◌-◌, ◌%◌, ◌<◌, ◌≤◌, ◌⊎◌, ⊎_elim, inl, inr, Bool, true, false, List, length, set, refl, sym, ap, ◌∙◌, subst, arith, length-set, below_more}
use Rattle.std.proofs.lemmas.Bool.{cases_lt}
use Rattle.std.proofs.lemmas.List.{get_or-set_same, get_or-set_other}
use Rattle.std.proofs.Math.Nat.{mod-eq_of_lt, mod-eq-sub-mod, mod-lt}
use Rattle.pm_policies.specs.Dials.{is_marked, place_after, HasPassed, Sweeps}

-- less than twice round, a number is itself or one round more
pub once_round : (n x : ℕ) → x < n + n → ((x < n) × (x % n ≡ x)) ⊎ ((n ≤ x) × (x % n + n ≡ x))
once_round n x h =
    ⊎_elim
    (λ (l : x < n). inl (l, mod-eq_of_lt l))
    (λ (l : n ≤ x).
    let back : x % n ≡ (x - n) % n = mod-eq-sub-mod l in let small : x - n < n = omega arith in let same : (x - n) % n ≡ x - n = mod-eq_of_lt small in
    inr (l, omega arith))
    (cases_lt x n)

-- the place after the next step
pub next_place : (n h p : ℕ) → h < n → p < n → ((h + p) % n + 1) % n ≡ (h + (p + 1)) % n
next_place n h p a b =
    ⊎_elim
    (λ (w : (h + p < n) × ((h + p) % n ≡ h + p)). ap (λ x. (x + 1) % n) w.1 ∙ ap (λ x. x % n) {x = h + p + 1} {y = h + (p + 1)} (omega arith))
    (λ (w : (n ≤ h + p) × ((h + p) % n + n ≡ h + p)).
    let past : n ≤ h + (p + 1) = omega (arith, w.0) in
    let back : (h + (p + 1)) % n ≡ (h + (p + 1) - n) % n = mod-eq-sub-mod past in
    let one : h + (p + 1) - n ≡ (h + p) % n + 1 = omega (arith, w.1) in
    sym (back ∙ ap (λ x. x % n) one))
    (once_round n (h + p) (omega arith))

-- in one round no place comes twice
pub apart : (n h k p : ℕ) → h < n → k < p → p < n → (h + p) % n ≡ (h + k) % n → ⊥
apart n h k p a b c e =
    ⊎_elim
    (λ (w : (h + p < n) × ((h + p) % n ≡ h + p)).
    ⊎_elim
    (λ (v : (h + k < n) × ((h + k) % n ≡ h + k)). absurd (omega (arith, w.1, v.1)))
    (λ (v : (n ≤ h + k) × ((h + k) % n + n ≡ h + k)). absurd (omega (arith, w.0, v.0)))
    (once_round n (h + k) (omega arith)))
    (λ (w : (n ≤ h + p) × ((h + p) % n + n ≡ h + p)).
    ⊎_elim
    (λ (v : (h + k < n) × ((h + k) % n ≡ h + k)). absurd (omega (arith, w.1, v.1)))
    (λ (v : (n ≤ h + k) × ((h + k) % n + n ≡ h + k)). absurd (omega (arith, w.1, v.1)))
    (once_round n (h + k) (omega arith)))
    (once_round n (h + p) (omega arith))

-- after a whole round it is the hand's place again
pub whole_round : (n h : ℕ) → h < n → (h + n) % n ≡ h
whole_round n h a =
    ⊎_elim
    (λ (w : (h + n < n) × ((h + n) % n ≡ h + n)). absurd (omega (arith, w.0)))
    (λ (w : (n ≤ h + n) × ((h + n) % n + n ≡ h + n)). omega (arith, w.1))
    (once_round n (h + n) (omega arith))

pub no_place : (n h : ℕ) → h < n → (h + 0) % n ≡ h
no_place n h a = ap (λ x. x % n) {x = h + 0} {y = h} (omega arith) ∙ mod-eq_of_lt a

pub passed_none : (marks : List Bool) (hand : ℕ) → HasPassed marks marks hand 0
passed_none marks hand = record {
  within = omega arith;
  same_length = refl;
  marked = λ k h. absurd (omega arith);
  cleared = λ k h. absurd (omega arith);
  kept = λ i h. refl;
}

module _ (old new : List Bool) (hand passed at : ℕ) (stands : hand < length old) (passes : HasPassed old new hand passed) (at_is : at ≡ place_after old hand passed) where
  at_within : at < length old
  at_within = subst (λ x. x < length old) (sym at_is) (mod-lt (hand + passed) {m = length old} (omega arith))

  not_passed : passed < length old → (k : ℕ) → k < passed → at ≢ place_after old hand k
  not_passed more k below same = apart (length old) hand k passed stands below more (sym at_is ∙ same)

  -- the frame at the hand has the mark that it had
  unchanged : passed < length old → is_marked new at ≡ is_marked old at
  unchanged more = passes.kept at (not_passed more)

  pub passed_more : passed < length old → is_marked new at ≡ true → HasPassed old (set new at false) hand (passed + 1)
  passed_more more mark = record {
    within = omega arith;
    same_length = length-set new at false ∙ passes.same_length;
    marked = below_more (λ k. is_marked old (place_after old hand k) ≡ true) passed passes.marked (subst (λ x. is_marked old x ≡ true) at_is (sym (unchanged more) ∙ mark));
    cleared = below_more (λ k. is_marked (set new at false) (place_after old hand k) ≡ false) passed
        (λ k below. get_or-set_other new at (place_after old hand k) false false (λ e. not_passed more k below (sym e)) ∙ passes.cleared k below)
        (subst (λ x. is_marked (set new at false) x ≡ false) at_is (get_or-set_same new at false false (omega (arith, at_within, passes.same_length))));
    kept = λ i others.
        get_or-set_other new at i false false (λ e. others passed (omega arith) (e ∙ at_is)) ∙ passes.kept i (λ k below. others k (omega arith));
  }

  pub stops_early : passed < length old → is_marked new at ≡ false → Sweeps old new hand at
  stops_early more clear = record {
    passed = passed;
    passes = passes;
    stops = at_is;
    was_clear = λ _. sym (unchanged more) ∙ clear;
    is_clear = clear;
  }

  pub stops_late : passed ≡ length old → Sweeps old new hand at
  stops_late all =
      let again : at ≡ hand = at_is ∙ ap (λ x. place_after old hand x) all ∙ whole_round (length old) hand stands in
      let first : hand ≡ place_after old hand 0 = sym (no_place (length old) hand stands) in
      record {
        passed = passed;
        passes = passes;
        stops = at_is;
        was_clear = λ less. absurd (omega arith);
        is_clear = subst (λ x. is_marked new x ≡ false) (sym (again ∙ first)) (passes.cleared 0 (omega arith));
      }

-- the hand after one more step
pub stands_next : (old : List Bool) (len hand passed at next : ℕ) → hand < length old → passed < length old → at ≡ place_after old hand passed → len ≡ length old → next ≡ (at + 1) % len
    → next ≡ place_after old hand (passed + 1)
stands_next old len hand passed at next stands more at_is long is =
    is ∙ ap (λ n. (at + 1) % n) long ∙ ap (λ x. (x + 1) % length old) at_is ∙ next_place (length old) hand passed stands more
