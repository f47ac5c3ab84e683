use Rattle.std.proofs.Common.{◌≡◌, ◌⊎◌, ◌≤◌, ◌-◌}
use Rattle.std.specs.Prelude.{◌^◌}
use Rattle.pm_disk.specs.Moments.{AllMoments}
use Rattle.pm_disk.specs.States.{IsLaterState}
use Rattle.pm_records.specs.LogFiles.{contents}
use Rattle.pm_redo.specs.Rebuilding.{IsSame}
use Rattle.pm_engine.specs.LogCounts.{segments_len}
use Rattle.pm_engine.proofs.log_count.log_bytes.Given as goal

abbrev pub invariant-segments : goal.invariant-segments
invariant-segments g l =
    let old = g.H.Device.history l.fn.host in
    let now = g.H.Device.history l.host in
    record {
      state : IsLaterState (g.H.Device.state l.fn.host) (g.H.Device.state l.host);
      from : l.fn.from.seg ≤ l.seg;
      to : (l.seg ≡ l.fn.from.seg) ⊎ (l.seg ≤ l.fn.end.seg);
      same : g.H.Device.tells → AllMoments old now (IsSame old.world);
      world : g.H.Device.tells → now.world ≡ old.world;
      counted : g.H.Device.tells → (segments_len (contents old.world.log) l.fn.from.seg (l.seg - l.fn.from.seg) ≤ l.bytes) ⊎ (2 ^ 64 - 1 ≤ l.bytes);
    }

-- it goes up to the end's segment
abbrev pub decreases-segments : goal.decreases-segments
decreases-segments g l = l.fn.end.seg - l.seg
