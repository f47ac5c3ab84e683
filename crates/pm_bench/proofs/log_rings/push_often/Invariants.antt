use Rattle.pm_logger.specs.LogEnds.{SameEnd}
use Rattle.pm_bench.proofs.log_rings.push_often.Given as goal

abbrev pub invariant-each : goal.invariant-each
invariant-each l = SameEnd l.fn.end l.end
