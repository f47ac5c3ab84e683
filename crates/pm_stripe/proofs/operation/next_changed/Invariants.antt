use Rattle.pm_stripe.proofs.NextPages.{IsLeastTo}
use Rattle.pm_stripe.proofs.operation.next_changed.Given as goal

-- the place and the name are those of the least so far
abbrev pub invariant-each : goal.invariant-each
invariant-each l = IsLeastTo l.held l.low l.i l.place l.least
