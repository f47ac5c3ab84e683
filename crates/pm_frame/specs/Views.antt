-- What contracts see of a frame that was read.
use Rattle.std.specs.Prelude.{Option, option_map}
use Rattle.pm_frame.specs.declared.frame.FrameView.{FrameView}
use Rattle.pm_frame.specs.Frames.{Frame}

-- the frame that a view shows
abbrev pub frame_of : FrameView → Frame
frame_of view = record { kind = view.kind; payload = view.payload.now }

-- the frame in an answer
abbrev pub frame_in : Option FrameView → Option Frame
frame_in = option_map frame_of
