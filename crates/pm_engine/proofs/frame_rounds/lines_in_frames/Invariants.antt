use Rattle.pm_engine.proofs.FrameChains.{RoundSoFar}
use Rattle.pm_engine.proofs.frame_rounds.lines_in_frames.Given as goal

-- the lines that were passed are done
abbrev pub invariant-lines : goal.invariant-lines
invariant-lines g l = RoundSoFar g.R.Device.tells g.R.Device.history g.R.Device.state l.fn.first l.fn.from l.fn.lines l.fn.bound l.bound l.fn.replies l.replies l.at
