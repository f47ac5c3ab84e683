use Rattle.std.proofs.Common.{◌≡◌, ◌<◌, ◌≤◌, ℕ}
use Rattle.std.specs.Prelude.{IsSome}
use Rattle.pm_disk.specs.Moments.{AllMoments}
use Rattle.pm_disk.specs.States.{IsLaterState}
use Rattle.pm_disk.specs.Worlds.{segment_in}
use Rattle.pm_redo.specs.Rebuilding.{IsSame}
use Rattle.pm_redo.proofs.cutting.lowest_kept.Given as goal

abbrev pub invariant-segments : goal.invariant-segments
invariant-segments g l =
    let old = g.H.Device.history l.fn.host in
    let now = g.H.Device.history l.host in
    record {
      state : IsLaterState (g.H.Device.state l.fn.host) (g.H.Device.state l.host);
      below : l.lowest ≤ l.fn.first;
      from_one : 1 ≤ l.fn.first → 1 ≤ l.lowest;
      same : g.H.Device.tells → AllMoments old now (IsSame old.world);
      world : g.H.Device.tells → now.world ≡ old.world;
      there : g.H.Device.tells → (seg : ℕ) → l.lowest ≤ seg → seg < l.fn.first → IsSome (segment_in old.world seg);
    }

-- it goes down
abbrev pub decreases-segments : goal.decreases-segments
decreases-segments g l = l.lowest
