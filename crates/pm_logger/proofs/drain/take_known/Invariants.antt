use Rattle.std.proofs.Common.{true, length}
use Rattle.pm_disk.specs.States.{IsLaterState}
use Rattle.pm_logger.specs.Inboxes.{waiting, KeepsSeen, AppendsTaken}
use Rattle.pm_logger.specs.Writers.{writer}
use Rattle.pm_logger.proofs.drain.take_known.Given as goal

abbrev pub invariant-each : goal.invariant-each
invariant-each g l = record {
  taken : AppendsTaken g.L.Device.tells (writer (g.L.Device.history l.fn.dev) l.fn.log l.fn.tally) (writer (g.L.Device.history l.dev) l.log l.tally)
      true l.fn.inbox l.inbox;
  seen : KeepsSeen l.fn.inbox l.inbox;
  state : IsLaterState (g.L.Device.state l.fn.dev) (g.L.Device.state l.dev);
}

abbrev pub decreases-each : goal.decreases-each
decreases-each g l = length (waiting l.inbox)
