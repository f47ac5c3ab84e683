use Rattle.std.proofs.Common.{◌+◌, ◌-◌, ◌*◌, ◌^◌, ◌≤◌}
use Rattle.pm_frame.specs.declared.limits.TheConstants.{SEGMENT_END_MAX}
use Rattle.pm_disk.specs.Moments.{AllMoments}
use Rattle.pm_disk.specs.States.{IsLaterState}
use Rattle.pm_segments.specs.Scans.{IsAhead}
use Rattle.pm_tools.specs.Listings.{SaysOfLog, HasListed}
use Rattle.pm_tools.proofs.listing.list_from.Given as goal

abbrev pub invariant-frames : goal.invariant-frames
invariant-frames g l =
    let state = g.H.Device.state in
    let old = g.H.Device.history l.fn.host in
    let now = g.H.Device.history l.host in
    record {
      state : IsLaterState (state l.fn.host) (state l.host);
      bound : l.scan.next.off ≤ SEGMENT_END_MAX;
      moments : g.H.Device.tells → AllMoments old now (SaysOfLog l.fn.from old.world);
      ahead : g.H.Device.tells → IsAhead l.scan now.world;
      listed : g.H.Device.tells → HasListed l.fn.from old.world now.world l.scan l.lines.items;
    }

-- the place rises, and there is a last segment
abbrev pub decreases-frames : goal.decreases-frames
decreases-frames g l = (2 ^ 64 - l.scan.next.seg) * 2 ^ 27 + (2 ^ 27 - l.scan.next.off)
