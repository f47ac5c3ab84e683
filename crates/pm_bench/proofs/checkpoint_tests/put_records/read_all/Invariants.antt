use Rattle.pm_disk.specs.States.{IsUsable}
use Rattle.pm_segments.specs.Scans.{IsAhead}
use Rattle.pm_bench.proofs.checkpoint_tests.put_records.read_all.Given as goal

abbrev pub invariant-frames : goal.invariant-frames
invariant-frames g l = record { usable : IsUsable (g.L.Device.state l.dev); ahead : g.L.Device.tells → IsAhead l.scan (g.L.Device.history l.dev).world }
