use Rattle.pm_logger.specs.LogEnds.{SameEnd}
use Rattle.pm_tests_logs.proofs.log_writers.Worker.push.Given as goal

abbrev pub invariant-tries : goal.invariant-tries
invariant-tries l = SameEnd l.fn.self.end l.self.end
