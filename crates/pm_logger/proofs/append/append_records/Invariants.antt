use Rattle.std.proofs.Common.{◌≡◌, length}
use Rattle.pm_disk.specs.States.{IsLaterState}
use Rattle.pm_logger.specs.Writers.{writer}
use Rattle.pm_logger.proofs.RecordLoop.{RecordsSoFar}
use Rattle.pm_logger.proofs.append.append_records.Given as goal

abbrev pub invariant-each : goal.invariant-each
invariant-each g l = record {
  so_far : RecordsSoFar g.L.Device.tells (writer (g.L.Device.history l.fn.dev) l.fn.log l.fn.tally) (writer (g.L.Device.history l.dev) l.log l.tally)
      l.line l.records l.rest l.is_named;
  state : IsLaterState (g.L.Device.state l.fn.dev) (g.L.Device.state l.dev);
  since : l.tally.since ≡ l.fn.tally.since;
}

abbrev pub decreases-each : goal.decreases-each
decreases-each g l = length l.rest
