-- What a clause sees of the files that a host or a part keeps open.
use Rattle.std.specs.Prelude.{◌≡◌, ◌≢◌, ◌<◌, ◌⊎◌, ◌^◌, ℕ, List, [], ◌∷◌, ◌++◌, length, map, All, Option}
use Rattle.std.specs.Prelude.{Bool, false, IsTrue}
use Rattle.std.specs.Option.{SomeIff}
use Rattle.pm_disk.specs.declared.names.StoreFile.{StoreFile}
use Rattle.pm_disk.specs.declared.names.StoreFile.TheVariants.{Segment}
use Rattle.pm_disk_fs.specs.declared.opened.Opened.{Opened}
use Rattle.pm_disk_fs.specs.declared.open_files.TheConstants.{OPEN_MAX}
use Rattle.pm_disk_fs.specs.WriteBuffer.{Stretch}

-- A file that is open since it was changed.
pub record OpenView : Type 0 where
  pub name : StoreFile
  -- where its last write ended, in bytes from the file's start, where that is known
  pub at : Option ℕ
  -- whether it was forced since its last change
  pub is_forced : Bool

-- what a clause sees of a file
abbrev pub view_of : {F : Type 0} → Opened F → OpenView
view_of file = record { name = file.name; at = file.at; is_forced = file.is_forced }

-- the files that are open, in the order of their last changes
abbrev pub open_views : {F : Type 0} → List (Opened F) → List OpenView
open_views files = map (λ file. view_of file) files

-- The file that was changed last is the one of this name, its last write ended at this offset, and it has to be
-- forced.
pub record WrittenLast (files : List OpenView) (name : StoreFile) (end : ℕ) : Type 0 where
  pub before : List OpenView
  pub file : OpenView
  pub last : files ≡ before ++ file ∷ []
  pub named : file.name ≡ name
  pub noted : SomeIff file.at (end < 2 ^ 64) end
  pub unforced : file.is_forced ≡ false

-- The file that was changed last is the one of this name, and it has to be forced.
pub record ChangedLast (files : List OpenView) (name : StoreFile) : Type 0 where
  pub before : List OpenView
  pub file : OpenView
  pub last : files ≡ before ++ file ∷ []
  pub named : file.name ≡ name
  pub unforced : file.is_forced ≡ false

-- The file that was changed or forced last is the one of this name, and it was forced since its last change.
pub record ForcedLast (files : List OpenView) (name : StoreFile) : Type 0 where
  pub before : List OpenView
  pub file : OpenView
  pub last : files ≡ before ++ file ∷ []
  pub named : file.name ≡ name
  pub forced : IsTrue file.is_forced

-- No open file has this name.
abbrev pub NoneOpen : List OpenView → StoreFile → Type 0
NoneOpen files name = All (λ file. file.name ≢ name) files

-- A segment was forced, after what was buffered was written: the file of it that was written last was forced
-- where something of it was buffered, and else its file that was open before, unless as many were as may be.
pub record SegmentForced (buffer : Stretch) (old new : List OpenView) (seg : ℕ) : Type 0 where
  pub buffered : 0 < length buffer.bytes → buffer.seg ≡ seg → ForcedLast new (Segment seg)
  pub open_before : length old < OPEN_MAX → NoneOpen old (Segment seg) ⊎ ForcedLast new (Segment seg)
