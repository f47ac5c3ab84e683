use Rattle.std.proofs.Common.{◌≡◌, ◌+◌, ◌-◌, ◌*◌, ◌^◌, ◌≤◌}
use Rattle.pm_frame.specs.declared.limits.TheConstants.{SEGMENT_END_MAX}
use Rattle.pm_disk.specs.Moments.{AllMoments}
use Rattle.pm_disk.specs.States.{IsLaterState}
use Rattle.pm_records.specs.LogFiles.{contents}
use Rattle.pm_redo.specs.Rebuilding.{IsSame}
use Rattle.pm_segments.specs.Scans.{IsAhead}
use Rattle.pm_tools.specs.Verifying.{HasRead}
use Rattle.pm_tools.proofs.verifying.count_from.Given as goal

abbrev pub invariant-frames : goal.invariant-frames
invariant-frames g l =
    let state = g.H.Device.state in
    let old = g.H.Device.history l.fn.host in
    let now = g.H.Device.history l.host in
    record {
      state : IsLaterState (state l.fn.host) (state l.host);
      bound : l.scan.next.off ≤ SEGMENT_END_MAX;
      same : g.H.Device.tells → AllMoments old now (IsSame old.world);
      world : g.H.Device.tells → now.world ≡ old.world;
      ahead : g.H.Device.tells → IsAhead l.scan now.world;
      read : g.H.Device.tells → HasRead (contents old.world.log) l.fn.from l.scan l.count;
    }

-- the place rises, and there is a last segment
abbrev pub decreases-frames : goal.decreases-frames
decreases-frames g l = (2 ^ 64 - l.scan.next.seg) * 2 ^ 27 + (2 ^ 27 - l.scan.next.off)
