-- Where a log ends that frames were appended to.
use Rattle.std.proofs.Common.{◌≡◌, ℕ, ◌+◌, ◌≤◌, Bool, true, false, List, [], ◌∷◌, length, refl, ◌∙◌, arith}
use Rattle.std.specs.Prelude.{if◌then◌else◌}
use Rattle.pm_frame.specs.Frames.{Frame}
use Rattle.pm_records.specs.Logs.{is_last}
use Rattle.pm_records.specs.LogSteps.{next_segment}
use Rattle.pm_segments.specs.Appends.{grown, rolled}
use Rattle.pm_segments.specs.Ends.{LogEnd, has_room, moved}
use Rattle.pm_engine.specs.AppendRuns.{grown_all}
use Rattle.pm_engine.proofs.RisenLogs.{grown_rises}

pub all_rises : (log : LogEnd) (frames : List Frame) → (grown_all log frames).end.seg ≤ log.end.seg + length frames
all_rises log [] = omega arith
all_rises log (frame ∷ frames) = omega (arith, all_rises (grown log frame) frames, grown_rises log frame)

pub grown_size : (log : LogEnd) (frame : Frame) → (grown log frame).segment_bytes ≡ log.segment_bytes
grown_size log frame = by (has_room log (length frame.payload))
  where
    by : (b : Bool) → (moved (if b then log else rolled log) frame).segment_bytes ≡ log.segment_bytes
    by true = refl
    by false = refl

pub all_size : (log : LogEnd) (frames : List Frame) → (grown_all log frames).segment_bytes ≡ log.segment_bytes
all_size log [] = refl
all_size log (frame ∷ frames) = all_size (grown log frame) frames ∙ grown_size log frame

pub next_from : (seg : ℕ) → 1 ≤ next_segment seg
next_from seg = by (is_last seg)
  where
    by : (b : Bool) → 1 ≤ (if b then 1 else seg + 1)
    by true = omega arith
    by false = omega arith

pub grown_from : (log : LogEnd) (frame : Frame) → 1 ≤ log.end.seg → 1 ≤ (grown log frame).end.seg
grown_from log frame from = by (has_room log (length frame.payload))
  where
    by : (b : Bool) → 1 ≤ (moved (if b then log else rolled log) frame).end.seg
    by true = from
    by false = next_from log.end.seg

pub all_from : (log : LogEnd) (frames : List Frame) → 1 ≤ log.end.seg → 1 ≤ (grown_all log frames).end.seg
all_from log [] from = from
all_from log (frame ∷ frames) from = all_from (grown log frame) frames (grown_from log frame from)
