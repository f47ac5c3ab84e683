use Rattle.std.proofs.Common.{◌≡◌, ◌∙◌, ℕ, false, None, Some, ap, sym, subst, arith}
use Rattle.std.specs.Result.{result_ok}
use Rattle.pm_top.specs.Words.{is_number_of}
use Rattle.pm_top.proofs.WordNumbers.{number_some, number_none}
use Rattle.pm_top.proofs.words.number_in.Goals as goal

same_some : (a b : ℕ) → Some a ≡ Some b → a ≡ b
same_some a b e = cc

pub returns-in_err-number-clause-number : goal.returns-in_err-number-clause-number
returns-in_err-number-clause-number c =
    c.from_residual.ensures
    ∙ number_none c.args.least c.args.most c.args.word.now c.parse.result (omega (arith, c.ranges.most.fits)) c.parse.ensures.value.0
    (λ number is. absurd (let both : Some number ≡ None = ap result_ok (sym is) ∙ sym c.ok.ensures.value ∙ c.in_err-number.was in cc))

pub returns-then-is_number_of-clause-number : goal.returns-then-is_number_of-clause-number
returns-then-is_number_of-clause-number c =
    number_some c.args.least c.args.most c.in_ok-number.number c.args.word.now (omega (arith, c.ranges.most.fits)) (sym c.is_number_of.ensures ∙ c.if-is_number_of.true)

pub returns-else-is_number_of-clause-number : goal.returns-else-is_number_of-clause-number
returns-else-is_number_of-clause-number c =
    number_none c.args.least c.args.most c.args.word.now c.parse.result (omega (arith, c.ranges.most.fits)) c.parse.ensures.value.0
    (λ number is.
    let same : c.in_ok-number.number ≡ number = same_some c.in_ok-number.number number (sym c.in_ok-number.was ∙ c.ok.ensures.value ∙ ap result_ok is) in
    subst (λ (n : ℕ). is_number_of c.args.least c.args.most n c.args.word.now ≡ false) same (sym c.is_number_of.ensures ∙ c.if-is_number_of.false))
