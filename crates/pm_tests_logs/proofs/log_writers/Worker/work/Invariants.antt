use Rattle.pm_logger.specs.LogEnds.{SameEnd}
use Rattle.pm_tests_logs.proofs.log_writers.Worker.work.Given as goal

abbrev pub invariant-each : goal.invariant-each
invariant-each l = SameEnd l.fn.self.end l.self.end
