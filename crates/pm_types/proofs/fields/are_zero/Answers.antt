use Rattle.std.proofs.Common.{arith}
use Rattle.pm_types.proofs.fields.are_zero.Goals as goal

pub returns : goal.returns
returns c =
    let e = c.each.invariant in (
      λ zero k low high. e.zero.0 zero k low (omega (arith, high, c.each.auto.at, c.each-test.false)),
      λ all. e.zero.1 (λ k low high. all k low (grind (arith, high, low, e.turned, c.each.auto.at-end))),
    )
