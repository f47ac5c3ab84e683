-- Bytes without a newline begin the first line.
use Rattle.std.proofs.Common.{◌≡◌, ℕ, zero, suc, ◌<◌, ◌≤◌, Bool, true, false, not, List, [], ◌∷◌, ◌++◌, length, take, cond, refl, ap, ◌∙◌, eqb, arith}
use Rattle.std.proofs.lemmas.Bool.{and_parts}
use Rattle.pm_script.specs.Lines.{first_line, after_line, is_unbroken}

-- a cut of a list and more is a cut of the whole
pub take-take_append : (most : ℕ) (xs ys : List ℕ) → take most (take most xs ++ ys) ≡ take most (xs ++ ys)
take-take_append zero xs ys = refl
take-take_append (suc most) [] ys = refl
take-take_append (suc most) (x ∷ xs) ys = ap (λ r. x ∷ r) (take-take_append most xs ys)

first_step : (t : Bool) (b : ℕ) (xs ys : List ℕ) → not t ≡ true → cond t [] (b ∷ (xs ++ ys)) ≡ b ∷ xs ++ ys
first_step true b xs ys h = absurd cc
first_step false b xs ys h = refl

-- bytes without a newline begin the first line
pub first_line-append : (part rest : List ℕ) → is_unbroken part ≡ true → first_line (part ++ rest) ≡ part ++ first_line rest
first_line-append [] rest h = refl
first_line-append (b ∷ part) rest h =
    let parts = and_parts _ _ h in
    ap (λ r. cond (eqb b 10) [] (b ∷ r)) (first_line-append part rest parts.1) ∙ first_step (eqb b 10) b part (first_line rest) parts.0

after_step : (t : Bool) (xs ys : List ℕ) → not t ≡ true → cond t xs ys ≡ ys
after_step true xs ys h = absurd cc
after_step false xs ys h = refl

-- bytes without a newline go with the first line
pub after_line-append : (part rest : List ℕ) → is_unbroken part ≡ true → after_line (part ++ rest) ≡ after_line rest
after_line-append [] rest h = refl
after_line-append (b ∷ part) rest h =
    let parts = and_parts _ _ h in
    after_step (eqb b 10) (part ++ rest) (after_line (part ++ rest)) parts.0 ∙ after_line-append part rest parts.1

shorter : (t : Bool) (xs : List ℕ) → length (after_line xs) ≤ length xs → length (cond t xs (after_line xs)) ≤ length xs
shorter true xs h = omega arith
shorter false xs h = h

after_line-le : (rest : List ℕ) → length (after_line rest) ≤ length rest
after_line-le [] = omega arith
after_line-le (b ∷ rest) = omega (arith, shorter (eqb b 10) rest (after_line-le rest))

-- something goes with the first line
pub after_line-lt : (rest : List ℕ) → 0 < length rest → length (after_line rest) < length rest
after_line-lt [] h = absurd (omega arith)
after_line-lt (b ∷ rest) h = omega (arith, shorter (eqb b 10) rest (after_line-le rest))
