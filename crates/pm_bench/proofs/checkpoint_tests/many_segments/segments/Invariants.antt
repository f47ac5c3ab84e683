use Rattle.std.proofs.Common.{◌≡◌}
use Rattle.pm_disk.specs.States.{IsUsable}
use Rattle.pm_bench.proofs.checkpoint_tests.many_segments.segments.Given as goal

-- no file was changed
abbrev pub invariant-segments : goal.invariant-segments
invariant-segments g l = record {
  usable : IsUsable (g.L.Device.state l.dev);
  same : g.L.Device.tells → (g.L.Device.history l.dev).world ≡ (g.L.Device.history l.fn.dev).world;
}
