use Rattle.std.proofs.Common.{arith}
use Rattle.pm_stripe.proofs.NextPages.{found_none}
use Rattle.pm_stripe.proofs.operation.next_changed.Goals as goal

pub returns-else-place-held : goal.returns-else-place-held
returns-else-place-held c =
    found_none c.args.held.now c.args.low c.each.i c.each.place c.each.least c.requires (omega (arith, c.each-test.false)) c.each.invariant (omega (arith, c.if-place-held.false))
