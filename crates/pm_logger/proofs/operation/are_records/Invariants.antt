use Rattle.std.specs.Prelude.{◌↔◌, length}
use Rattle.pm_records.specs.Operations.{AreRecords}
use Rattle.pm_logger.proofs.operation.are_records.Given as goal

-- what is left is records exactly where all is
abbrev pub invariant-each : goal.invariant-each
invariant-each l = AreRecords l.rest ↔ AreRecords l.bytes

abbrev pub decreases-each : goal.decreases-each
decreases-each l = length l.rest
