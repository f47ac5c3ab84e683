use Rattle.std.proofs.Common.{◌≤◌, ◌-◌, true, length, drop}
use Rattle.pm_disk.specs.States.{IsLaterState}
use Rattle.pm_logger.specs.Fronts.{AppendsFront}
use Rattle.pm_logger.specs.Writers.{writer}
use Rattle.pm_logger.proofs.front.append_front.Given as goal

abbrev pub invariant-each : goal.invariant-each
invariant-each g l = record {
  front : AppendsFront g.L.Device.tells (writer (g.L.Device.history l.fn.dev) l.fn.log l.fn.tally) (writer (g.L.Device.history l.dev) l.log l.tally)
      true l.bytes (drop l.at l.bytes);
  within : l.at ≤ length l.bytes;
  state : IsLaterState (g.L.Device.state l.fn.dev) (g.L.Device.state l.dev);
}

abbrev pub decreases-each : goal.decreases-each
decreases-each g l = length l.bytes - l.at
