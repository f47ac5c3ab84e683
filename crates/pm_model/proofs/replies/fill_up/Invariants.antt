use Rattle.std.proofs.Common.{◌-◌, length}
use Rattle.pm_model.proofs.replies.fill_up.Given as goal

abbrev pub invariant-each : goal.invariant-each
invariant-each l = Unit {0}

abbrev pub decreases-each : goal.decreases-each
decreases-each l = l.n - length l.values.items
