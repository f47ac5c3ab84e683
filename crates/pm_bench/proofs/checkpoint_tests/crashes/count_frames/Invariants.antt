use Rattle.pm_disk.specs.States.{IsUsable}
use Rattle.pm_segments.specs.Scans.{IsAhead}
use Rattle.pm_bench.proofs.checkpoint_tests.crashes.count_frames.Given as goal

abbrev pub invariant-frames : goal.invariant-frames
invariant-frames g l = record { usable : IsUsable (g.L.Device.state l.host); ahead : g.L.Device.tells → IsAhead l.scan (g.L.Device.history l.host).world }
