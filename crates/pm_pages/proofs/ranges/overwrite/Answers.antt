use Rattle.std.proofs.Common.{◌≡◌, ◌-◌, ◌<◌, ℕ, List, length, subst, sym, ap, ◌∙◌, arith}
use Rattle.pm_types.specs.DeltaRanges.{end_of, AreRanges, with_ranges}
use Rattle.pm_types.proofs.FrontRanges.{rest_after_front, with_ranges-front}
use Rattle.pm_pages.proofs.ranges.overwrite.Goals as goal

pub front-preserved : goal.front-preserved
front-preserved c =
    let some : 0 < c.front.left = omega (arith, c.front-test.true) in
    let low = c.front.invariant.ranges.0 in
    let rest = rest_after_front c.front.left low (length c.front.page) c.front.rest.now some c.front.invariant.ranges.1 in
    let P : List ℕ × ℕ → Type 0 = λ p. AreRanges (c.front.left - 1) (end_of c.front.rest.now) p.1 p.0 in
    let size : length c.overwrite_front.new.page ≡ length c.front.page = cc in
    record {
      size = cc;
      ranges = (end_of c.front.rest.now, subst P (λ i. (sym c.after_front-rest.ensures i, sym size i)) rest);
      same = ap (λ (p : List ℕ × List ℕ). with_ranges (c.front.left - 1) p.0 p.1) (λ i. (c.after_front-rest.ensures i, c.overwrite_front.ensures i)) ∙ with_ranges-front c.front.left c.front.rest.now c.front.page some ∙ c.front.invariant.same;
    }
