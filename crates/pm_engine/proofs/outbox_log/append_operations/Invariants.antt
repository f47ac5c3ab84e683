use Rattle.std.proofs.Common.{length, List}
use Rattle.pm_disk.specs.States.{IsLaterState}
use Rattle.pm_frame.specs.Frames.{Frame}
use Rattle.pm_engine.specs.OutboxLogs.{SpellOperationRecords}
use Rattle.pm_engine.proofs.OutboxLoops.{AppendsSome}
use Rattle.pm_engine.proofs.outbox_log.append_operations.Given as goal

abbrev pub invariant-each : goal.invariant-each
invariant-each g l = record {
  so_far : (frames : List Frame) → SpellOperationRecords l.bytes frames
      → AppendsSome SpellOperationRecords g.L.Device.tells (g.L.Device.history l.fn.dev) (g.L.Device.history l.dev) l.fn.log l.log l.rest frames;
  state : IsLaterState (g.L.Device.state l.fn.dev) (g.L.Device.state l.dev);
}

abbrev pub decreases-each : goal.decreases-each
decreases-each g l = length l.rest
