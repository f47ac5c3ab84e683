use Rattle.std.proofs.Common.{◌≤◌, length}
use Rattle.pm_logger.specs.LogEnds.{SameEnd}
use Rattle.pm_bench.proofs.ring_threads.push_whole.Given as goal

abbrev pub invariant-tries : goal.invariant-tries
invariant-tries l = SameEnd l.fn.end l.end × (l.pushed ≤ length l.operation)
