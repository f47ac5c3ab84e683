-- All files of a disk in memory that calls change.
use Rattle.std.specs.Prelude.{◌≡◌, ℕ}
use Rattle.pm_disk.specs.Files.{File, Change}
use Rattle.pm_disk.specs.Worlds.{World, mark_file, log_changed, log_forced, pages_changed, pages_forced}
use Rattle.pm_disk.specs.Worlds.{marks_changed, marks_forced}
use Rattle.pm_disk.specs.declared.mark.MarkFile.TheVariants as mark
use Rattle.pm_disk.specs.Images.{Leaves}
use Rattle.pm_disk_mem.specs.Tracks.{Track, new_track}
use Rattle.pm_disk_mem.specs.Changes.{bytes_in}
use Rattle.pm_disk_mem.specs.Disks.{content_at}
use Rattle.pm_disk_mem.specs.Families.{track_at, file_at, SameTracks, TrackIs}
use Rattle.pm_disk_mem.specs.Picks.{ArePicked, left_by, pick_beside}
use Rattle.pm_disk_mem.specs.declared.files.Files.{Files}
use Rattle.pm_disk_mem.specs.declared.parts.DiskParts.{DiskParts}
use Rattle.pm_disk_mem.specs.declared.pick.Pick.{Pick}
use Rattle.pm_disk_mem.specs.declared.step.ChangedFile.{ChangedFile}
use Rattle.pm_disk_mem.specs.declared.step.ChangedFile.TheVariants.{Segment, Pages, Marks}

-- one of the files
abbrev pub track_in : Files → ChangedFile → Track
track_in files (Segment seg) = track_at files.log seg
track_in files (Pages part) = track_at files.pages part
track_in files (Marks mark.Start) = files.starts
track_in files (Marks mark.End) = files.ends

-- One of the files is this one now, and each other one is as it was.
abbrev pub FileIs : Files → Files → ChangedFile → Track → Type 0
FileIs old new (Segment seg) track = TrackIs old.log new.log seg track × (new.pages ≡ old.pages)
    × (new.starts ≡ old.starts) × (new.ends ≡ old.ends)
FileIs old new (Pages part) track = TrackIs old.pages new.pages part track × (new.log ≡ old.log)
    × (new.starts ≡ old.starts) × (new.ends ≡ old.ends)
FileIs old new (Marks mark.Start) track = (new.starts ≡ track) × (new.log ≡ old.log)
    × (new.pages ≡ old.pages) × (new.ends ≡ old.ends)
FileIs old new (Marks mark.End) track = (new.ends ≡ track) × (new.log ≡ old.log) × (new.pages ≡ old.pages)
    × (new.starts ≡ old.starts)

-- Each file is as it was.
pub record SameFiles (old new : Files) : Type 0 where
  pub log : SameTracks old.log new.log
  pub pages : SameTracks old.pages new.pages
  pub starts : new.starts ≡ old.starts
  pub ends : new.ends ≡ old.ends

-- what this world has of one of the files
abbrev pub file_of : World → ChangedFile → File
file_of world (Segment seg) = world.log seg
file_of world (Pages part) = world.pages part
file_of world (Marks file) = mark_file world file

-- the world where one of the files was changed
abbrev pub file_changed : ChangedFile → Change → World → World
file_changed (Segment seg) change world = log_changed seg change world
file_changed (Pages part) change world = pages_changed part change world
file_changed (Marks file) change world = marks_changed file change world

-- the world where one of the files was forced
abbrev pub file_forced : ChangedFile → World → World
file_forced (Segment seg) world = log_forced seg world
file_forced (Pages part) world = pages_forced part world
file_forced (Marks file) world = marks_forced file world

-- The files hold what these parts of a disk have, and nothing of them is pending.
pub record Begins (files : Files) (parts : DiskParts) : Type 0 where
  pub log : (seg : ℕ) → track_at files.log seg ≡ new_track (content_at parts.log seg)
  pub pages : (part : ℕ) → track_at files.pages part ≡ new_track (content_at parts.pages part)
  pub starts : files.starts ≡ new_track (bytes_in parts.starts)
  pub ends : files.ends ≡ new_track (bytes_in parts.ends)

-- These parts of a disk are what a crash leaves of the files by this pick.
pub record PartsPicked (pick : Pick) (files : Files) (parts : DiskParts) : Type 0 where
  pub log : ArePicked pick (file_at files.log) parts.log
  pub pages : ArePicked (pick_beside pick) (file_at files.pages) parts.pages
  pub starts : bytes_in parts.starts ≡ left_by (pick_beside pick) files.starts.file
  pub ends : bytes_in parts.ends ≡ left_by (pick_beside pick) files.ends.file

-- These parts of a disk are what a crash may leave of the files.
pub record PartsLeft (files : Files) (parts : DiskParts) : Type 0 where
  pub log : (seg : ℕ) → Leaves (file_at files.log seg) (content_at parts.log seg)
  pub pages : (part : ℕ) → Leaves (file_at files.pages part) (content_at parts.pages part)
  pub starts : Leaves files.starts.file (bytes_in parts.starts)
  pub ends : Leaves files.ends.file (bytes_in parts.ends)
