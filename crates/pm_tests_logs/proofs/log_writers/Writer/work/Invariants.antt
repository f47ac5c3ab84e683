use Rattle.std.proofs.Common.{List}
use Rattle.pm_logger.specs.Loggers.{inboxes}
use Rattle.pm_logger.specs.Rings.{AreLinked}
use Rattle.pm_logger.specs.declared.log_end.LogEnd.{LogEnd}
use Rattle.pm_tests_logs.proofs.log_writers.Writer.work.Given as goal

abbrev pub invariant-calls : goal.invariant-calls
invariant-calls l = (ends : List LogEnd) → AreLinked ends (inboxes l.fn.self.logger) → AreLinked ends (inboxes l.self.logger)
