use Rattle.std.proofs.Common.{◌≡◌, ◌≤◌, ◌++◌, ◌-◌, length, take}
use Rattle.pm_logger.specs.Blocks.{joined}
use Rattle.pm_logger.specs.LogEnds.{pushed, SameEnd}
use Rattle.pm_logger.proofs.log_end.LogEnd.push_bytes.Given as goal

abbrev pub invariant-each : goal.invariant-each
invariant-each l = SameEnd l.fn.self l.self × (l.at ≤ length l.bytes) × (joined (pushed l.self) ≡ joined (pushed l.fn.self) ++ take l.at l.bytes)

abbrev pub decreases-each : goal.decreases-each
decreases-each l = length l.bytes - l.at
