use Rattle.std.proofs.Common.{List}
use Rattle.pm_logger.specs.Loggers.{inboxes}
use Rattle.pm_logger.specs.Rings.{AreLinked}
use Rattle.pm_logger.specs.declared.log_end.LogEnd.{LogEnd}
use Rattle.pm_bench.proofs.ring_threads.append_all.Given as goal

abbrev pub invariant-calls : goal.invariant-calls
invariant-calls l = (ends : List LogEnd) → AreLinked ends (inboxes l.fn.writer.logger) → AreLinked ends (inboxes l.writer.logger)
