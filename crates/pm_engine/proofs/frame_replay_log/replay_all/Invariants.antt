use Rattle.std.proofs.Common.{◌+◌, ◌-◌, ◌*◌, ◌^◌}
use Rattle.pm_disk.specs.States.{IsLaterState}
use Rattle.pm_engine.proofs.ReplayedFrames.{ReplaysSoFar}
use Rattle.pm_engine.proofs.frame_replay_log.replay_all.Given as goal

abbrev pub invariant-frames : goal.invariant-frames
invariant-frames g l =
    let state = g.H.Device.state in
    record {
      state : IsLaterState (state l.fn.host) (state l.host);
      so : ReplaysSoFar g.H.Device.tells l.fn.scan l.scan l.fn.end l.fn.engine l.running (g.H.Device.history l.fn.host) (g.H.Device.history l.host);
    }

-- the place rises, and there is a last segment
abbrev pub decreases-frames : goal.decreases-frames
decreases-frames g l = (2 ^ 64 - l.scan.next.seg) * 2 ^ 27 + (2 ^ 27 - l.scan.next.off)
