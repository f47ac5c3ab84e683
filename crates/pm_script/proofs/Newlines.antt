-- The first newline of some bytes.
use Rattle.std.proofs.Common.{◌≡◌, ℕ, ◌+◌, ◌&&◌, is_some, zero, suc, Bool, true, false, not, List, [], ◌∷◌, length, take, drop, Some, None, Option, refl, ap, sym, ◌∙◌, subst, eqb, add-one, arith}
use Rattle.std.proofs.lemmas.Bool.{eqb-true, and_from}
use Rattle.std.proofs.lemmas.List.{take_all}
use Rattle.std.proofs.Math.Seq.{drop-cons}
use Rattle.memchr.specs.Find.{Nowhere, Passes, IsFirstByte, is_byte}
use Rattle.pm_script.specs.Lines.{is_unbroken}
use Rattle.pm_script.specs.Reading.{FindsNewline}

fails : (b : Bool) → (b ≡ true → ⊥) → not b ≡ true
fails true h = absurd (h refl)
fails false h = refl

-- where no newline stands below a place, what stands there is unbroken
unbroken_before : (xs : List ℕ) (i : ℕ) → Nowhere (Passes (is_byte 10) xs) 0 i → is_unbroken (take i xs) ≡ true
unbroken_before xs zero none = refl
unbroken_before [] (suc i) none = refl
unbroken_before (x ∷ xs) (suc i) none =
    and_from _ _ (fails (eqb x 10) (λ is. none 0 (omega arith) (omega arith) is))
    (unbroken_before xs i (λ k low lt is. none (suc k) (omega arith) (omega (arith, lt)) is))

pub first_newline : (bytes : List ℕ) (found : Option ℕ) → IsFirstByte (is_byte 10) bytes found → FindsNewline bytes found
first_newline bytes None none = subst (λ ys. is_unbroken ys ≡ true) (take_all (length bytes) bytes (omega arith)) (unbroken_before bytes (length bytes) none)
first_newline bytes (Some i) found = (
  found.0.high,
  unbroken_before bytes i found.0.before,
  drop-cons bytes i 0 found.0.high ∙ ap (λ b. b ∷ drop (suc i) bytes) (eqb-true _ _ found.1) ∙ ap (λ n. 10 ∷ drop n bytes) (sym (add-one i)),
)

and_false : (b : Bool) → (b && false) ≡ false
and_false true = refl
and_false false = refl

-- where a newline stands somewhere, the bytes aren't unbroken
broken_at : (bytes rest : List ℕ) (i : ℕ) → drop i bytes ≡ 10 ∷ rest → is_unbroken bytes ≡ false
broken_at [] rest zero there = cc
broken_at [] rest (suc i) there = cc
broken_at (b ∷ bytes) rest zero there =
    let is : b ≡ 10 = cc in
    subst (λ n. is_unbroken (n ∷ bytes) ≡ false) (sym is) refl
broken_at (b ∷ bytes) rest (suc i) there = ap (λ others. not (eqb b 10) && others) (broken_at bytes rest i there) ∙ and_false (not (eqb b 10))

-- a newline is found exactly where the bytes have one
pub found_broken : (bytes : List ℕ) (found : Option ℕ) → FindsNewline bytes found → is_some found ≡ not (is_unbroken bytes)
found_broken bytes None unbroken = ap not (sym unbroken)
found_broken bytes (Some i) found = ap not (sym (broken_at bytes (drop (i + 1) bytes) i found.2))
