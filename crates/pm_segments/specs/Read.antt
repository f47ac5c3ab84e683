-- What a scan has read of a log.
use Rattle.std.specs.Prelude.{◌≡◌, ℕ, List}
use Rattle.pm_types.specs.declared.place.Place.{Place}
use Rattle.pm_frame.specs.Frames.{Frame}
use Rattle.pm_records.specs.Logs.{all_frames, HasFrames, after_frames, is_over}
use Rattle.pm_segments.specs.Scans.{Scanned}

-- These frames were given by a scan that began at this place, over segments of these bytes.
pub record HasScanned (bytes : ℕ → List ℕ) (from : Place) (frames : List Frame) (scan : Scanned) : Type 0 where
  pub run : HasFrames all_frames bytes from frames
  pub next : scan.next ≡ after_frames from frames
  pub over : scan.is_over ≡ is_over from frames
