use Rattle.std.proofs.Common.{◌≡◌, ◌<◌, ◌-◌, ℕ, List, Bool, false, subst, sym, refl}
use Rattle.std.specs.Prelude.{◌↔◌, IsTrue}
use Rattle.pm_types.specs.DeltaRanges.{end_of, after_front, BeginsWithRange, AreRanges}
use Rattle.pm_types.proofs.FrontRanges.{AreRanges-front, no_front}
use Rattle.pm_types.proofs.ranges.are_ranges.Goals as goal

not_true : (b : Bool) → b ≡ false → IsTrue b → ⊥
not_true b is_false is_true = absurd (cc)

-- after the range at the front
step_over_front : (number left low end low' : ℕ) (all rest rest' : List ℕ) → 0 < left → BeginsWithRange low end rest → low' ≡ end_of rest → rest' ≡ after_front rest → (AreRanges left low end rest ↔ AreRanges number 0 end all) → AreRanges (left - 1) low' end rest' ↔ AreRanges number 0 end all
step_over_front number left low end low' all rest rest' some begins e_low e_rest same =
    let front = AreRanges-front left low end rest some begins in
    let P : ℕ × List ℕ → Type 0 = λ p. AreRanges (left - 1) p.0 end p.1 ↔ AreRanges number 0 end all in
    subst P (λ i. (sym e_low i, sym e_rest i)) (λ h. same.0 (front.0 h), λ h. front.1 (same.1 h))

pub returns-then-not-begins_with_range : goal.returns-then-not-begins_with_range
returns-then-not-begins_with_range c =
    let no = not_true c.begins_with_range.result c.if-not-begins_with_range.true in
    (λ h. absurd (not_true false refl h), λ all. absurd (no_front c.each.left c.each.low c.args.end c.each.rest.now c.each-test.true (λ begins. no (c.begins_with_range.ensures.1 begins)) (c.each.invariant.1 all)))

pub each-preserved : goal.each-preserved
each-preserved c = step_over_front c.args.number c.each.left c.each.low c.args.end c.end_of-low.result c.args.ranges.now c.each.rest.now c.after_front-rest.result.now c.each-test.true (c.begins_with_range.ensures.0 c.if-not-begins_with_range.false) c.end_of-low.ensures c.after_front-rest.ensures c.each.invariant
