-- Frames that are appended to the log, one after the other.
use Rattle.std.specs.Prelude.{◌≡◌, List, [], ◌∷◌, ◌++◌, Result, OnOk}
use Rattle.pm_frame.specs.Frames.{Frame}
use Rattle.pm_disk.specs.Moments.{History}
use Rattle.pm_records.specs.LogSteps.{Step, DoesSteps}
use Rattle.pm_segments.specs.Appends.{append_steps, grown}
use Rattle.pm_segments.specs.Ends.{LogEnd, EndsThere}

-- the log after these frames, the first of them first
abbrev pub grown_all : LogEnd → List Frame → LogEnd
grown_all log [] = log
grown_all log (frame ∷ frames) = grown_all (grown log frame) frames

-- the steps of their appends
abbrev pub append_all_steps : LogEnd → List Frame → List Step
append_all_steps log [] = []
append_all_steps log (frame ∷ frames) = append_steps log frame ++ append_all_steps (grown log frame) frames

-- Each of these frames was appended; at an `Err` a prefix of the steps of their appends was made.
pub record AppendsAll {T E : Type 0} (tells : Type 0) (old new : History) (result : Result T E)
    (before now : LogEnd) (frames : List Frame) : Type 0 where
  pub log : OnOk result (now ≡ grown_all before frames)
  pub ends : tells → OnOk result (EndsThere now new.world)
  pub steps : tells → DoesSteps {T = T} {E = E} old new result (append_all_steps before frames) before.end
