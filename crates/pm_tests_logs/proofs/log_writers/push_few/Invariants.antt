use Rattle.pm_logger.specs.LogEnds.{SameEnd}
use Rattle.pm_tests_logs.proofs.log_writers.push_few.Given as goal

abbrev pub invariant-each : goal.invariant-each
invariant-each l = SameEnd l.fn.end l.end
