use Rattle.std.proofs.Common.{◌-◌, length}
use Rattle.pm_disk.specs.States.{IsLaterState}
use Rattle.pm_engine.proofs.FrameJoined.{PartsSoFar}
use Rattle.pm_engine.proofs.engine.Engine.run_parts.Given as goal

-- the lines up to this one were run, and no call failed
abbrev pub invariant-parts : goal.invariant-parts
invariant-parts g l = record {
  so_far : PartsSoFar g.H.Device.tells (g.H.Device.history l.fn.host) (g.H.Device.history l.host) l.fn.first l.lines l.done l.fn.self l.engine l.fn.replies l.replies;
  state : IsLaterState (g.H.Device.state l.fn.host) (g.H.Device.state l.host);
}

abbrev pub decreases-parts : goal.decreases-parts
decreases-parts g l = length l.lines - l.done
