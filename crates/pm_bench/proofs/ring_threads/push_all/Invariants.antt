use Rattle.pm_logger.specs.LogEnds.{SameEnd}
use Rattle.pm_bench.proofs.ring_threads.push_all.Given as goal

abbrev pub invariant-each : goal.invariant-each
invariant-each l = SameEnd l.fn.ring l.ring
