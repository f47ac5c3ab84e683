-- A family of files in memory, one for each number.
use Rattle.std.specs.Prelude.{◌≡◌, ◌≢◌, ℕ, None, unwrap_or}
use Rattle.std.specs.Ordering.{nat_cmp}
use Rattle.std.specs.BTreeMap.{get}
use Rattle.pm_disk.specs.Files.{File}
use Rattle.pm_disk_mem.specs.Tracks.{Track, new_track}
use Rattle.pm_disk_mem.specs.declared.family.Family.{Family}

-- the file of a number: one without an entry was absent at the start and wasn't changed
abbrev pub track_at : Family → ℕ → Track
track_at family number = unwrap_or (get nat_cmp family.files number) (new_track None)

-- what the file of a number has
abbrev pub file_at : Family → ℕ → File
file_at family number = (track_at family number).file

-- each file is as it was
abbrev pub SameTracks : Family → Family → Type 0
SameTracks old new = (n : ℕ) → track_at new n ≡ track_at old n

-- One file is this one now, and each other one is as it was.
pub record TrackIs (old new : Family) (number : ℕ) (track : Track) : Type 0 where
  pub here : track_at new number ≡ track
  pub there : (n : ℕ) → n ≢ number → track_at new n ≡ track_at old n
