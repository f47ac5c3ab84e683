use Rattle.std.proofs.Common.{true}
use Rattle.pm_disk.specs.States.{IsLaterState}
use Rattle.pm_logger.specs.Merges.{AppendsMerge}
use Rattle.pm_logger.specs.Writers.{writer}
use Rattle.pm_logger.proofs.turn.turns.Given as goal

abbrev pub invariant-each : goal.invariant-each
invariant-each g l = record {
  merged : AppendsMerge g.L.Device.tells (writer (g.L.Device.history l.fn.dev) l.fn.log l.fn.tally) (writer (g.L.Device.history l.dev) l.log l.tally)
      true l.fn.rings.items l.rings.items;
  state : IsLaterState (g.L.Device.state l.fn.dev) (g.L.Device.state l.dev);
}
