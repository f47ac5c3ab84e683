-- Where a log ends that is read from a place on.
use Rattle.std.specs.Prelude.{ℕ, ◌≡◌, ◌⊎◌, ◌<◌, List, Bool, true, false, Some, None}
use Rattle.pm_types.specs.declared.place.Place.{Place}
use Rattle.pm_frame.specs.Frames.{Frame}
use Rattle.pm_disk.specs.Worlds.{World}
use Rattle.pm_records.specs.Logs.{all_frames, after_frames, IsLogFrom}
use Rattle.pm_segments.specs.Scans.{Scanned, frame_ahead, Advances}

-- the log from a place on ends there
pub record LogEndsAt (log : ℕ → List ℕ) (from end : Place) : Type 0 where
  pub frames : List Frame
  pub is_log : IsLogFrom all_frames log from frames
  pub ends : end ≡ after_frames from frames

-- the frame that stands next was passed, or none stands there
abbrev pub PassesNext : Bool → Scanned → Scanned → World → Type 0
PassesNext true scan later world =
    (frame : Frame) × (frame_ahead scan world ≡ Some frame) × Advances scan later (Some frame)
PassesNext false scan later world = (frame_ahead scan world ≡ None) × Advances scan later None

-- a scan gives the place from which it went on, and goes on after it where there is a frame
abbrev pub PassesFurther : Bool → Scanned → Scanned → Type 0
PassesFurther true scan later = (later.place ≡ scan.next)
    × ((scan.next.seg < later.next.seg) ⊎ ((scan.next.seg ≡ later.next.seg) × (scan.next.off < later.next.off)))
PassesFurther false scan later = later.place ≡ scan.next
