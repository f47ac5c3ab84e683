use Rattle.std.proofs.Common.{◌≡◌, length}
use Rattle.pm_logger.specs.Loggers.{inboxes}
use Rattle.pm_logger.specs.Rings.{AreLinked}
use Rattle.pm_bench.proofs.log_rings.push_all.Given as goal

abbrev pub invariant-rounds : goal.invariant-rounds
invariant-rounds l = (length l.ends.items ≡ 2) × AreLinked l.ends.items (inboxes l.logger)
