-- A seat stands for a number exactly where it is one of its workers', or the flusher's.
use Rattle.std.proofs.Common.{◌≡◌, ℕ, ◌<◌, ◌≤◌, ◌⊎◌, Bool, true, false, eqb, eq-eqb, sym, refl, ap, ◌∙◌, inl, inr, ⊎_elim, arith}
use Rattle.std.specs.Prelude.{◌&&◌, ◌||◌, nat_le, nat_lt}
use Rattle.std.proofs.lemmas.Bool.{leb-true, le-leb, ltb-true, lt-ltb, eqb-true}
use Rattle.pm_locks.specs.declared.view.Numbers.{Numbers}
use Rattle.pm_locks.specs.declared.view.View.{View}
use Rattle.pm_locks.specs.Views.{is_among, Has, IsWhole}

pub true_not_false : true ≡ false → ⊥
true_not_false e = cc e

pub not_true : (b : Bool) → ¬ (b ≡ true) → b ≡ false
not_true true h = absurd (h refl)
not_true false h = refl

pub and_false : (b : Bool) → (b && false) ≡ false
and_false true = refl
and_false false = refl

pub both_are : (a b : Bool) → (a && b) ≡ true → (a ≡ true) × (b ≡ true)
both_are true b h = (refl, h)
both_are false b h = absurd (true_not_false (sym h))

either_is : (a b : Bool) → (a || b) ≡ true → (a ≡ true) ⊎ (b ≡ true)
either_is true b h = inl refl
either_is false b h = inr h

left_is : (a b : Bool) → a ≡ true → (a || b) ≡ true
left_is a b h = rw h refl

right_is : (a b : Bool) → b ≡ true → (a || b) ≡ true
right_is true b h = refl
right_is false b h = h

-- a worker's number, or the flusher's
abbrev pub IsOneOf : Numbers → ℕ → Type 0
IsOneOf l n = ((l.from ≤ n) × (n < l.upto)) ⊎ ((n ≡ 8) × (l.flusher ≡ true))

pub among : (l : Numbers) (n : ℕ) → is_among l n ≡ true → IsOneOf l n
among l n h = ⊎_elim
    (λ a. let p = both_are (nat_le l.from n) (nat_lt n l.upto) a in inl (leb-true l.from n p.0, ltb-true n l.upto p.1))
    (λ b. let p = both_are (eqb n 8) l.flusher b in inr (eqb-true n 8 p.0, p.1))
    (either_is (nat_le l.from n && nat_lt n l.upto) (eqb n 8 && l.flusher) h)

pub is_one : (l : Numbers) (n : ℕ) → IsOneOf l n → is_among l n ≡ true
is_one l n = ⊎_elim
    (λ p. left_is (nat_le l.from n && nat_lt n l.upto) (eqb n 8 && l.flusher) (rw (le-leb l.from n p.0) (lt-ltb n l.upto p.1)))
    (λ p. right_is (nat_le l.from n && nat_lt n l.upto) (eqb n 8 && l.flusher) (rw (eq-eqb n 8 p.0) p.1))

-- no number is past the flusher's
pub has_small : (l : Numbers) (n : ℕ) → l.upto ≤ 8 → is_among l n ≡ true → n < 9
has_small l n few h = ⊎_elim (λ p. let k = p.1 in omega arith) (λ p. let k = p.0 in omega arith) (among l n h)

pub whole_has : (v : View) (n : ℕ) → IsWhole v → (n < v.workers) ⊎ (n ≡ 8) → Has v n
whole_has v n whole who =
    ap (λ (l : Numbers). is_among l n) whole ∙ is_one (record { from = 0; upto = v.workers; flusher = true }) n (⊎_elim (λ a. inl (omega arith, a)) (λ b. inr (b, refl)) who)
