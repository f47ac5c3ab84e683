-- How far a file was written.
use Rattle.std.specs.Prelude.{◌≡◌, ◌+◌, ◌^◌, ◌<◌, ◌⊎◌, ℕ, List, [], ◌∷◌, ◌++◌, length, Option, Some}
use Rattle.std.specs.Prelude.{◌≢◌, IsSome, IfSome, IsTrue, false, Contains}
use Rattle.std.specs.Option.{SomeIff}
use Rattle.std.specs.Io.KnownBytes.{Appends}
use Rattle.pm_disk.specs.declared.names.StoreFile.{StoreFile}
use Rattle.pm_disk.specs.declared.names.StoreFile.TheVariants.{Segment}
use Rattle.pm_disk_fs.specs.declared.opened.Opened.{Opened}
use Rattle.pm_disk_fs.specs.OpenFiles.{IsNotOpen, AreSynced}
use Rattle.pm_disk_fs.specs.declared.open_files.TheConstants.{OPEN_MAX}
use Rattle.pm_disk_fs.specs.WriteBuffer.{Stretch, IsAppended, IsAlone}

-- The file reports where it stands, and it is where it was noted to stand, if that was noted.
pub record IsKnown (noted reported : Option ℕ) : Type 0 where
  pub is_reported : IsSome reported
  pub agrees : IfSome noted (λ at. reported ≡ Some at)

-- The system's file was handed these bytes, and nothing after them.
pub record IsHanded {F : Type 0} (contents : F → Option (List ℕ)) (file : F) (bytes : List ℕ) : Type 0 where
  pub before : F
  pub appended : Appends (contents before) (contents file) bytes

-- The file is the one of this name, the last write to it was of these bytes and began at this offset, and it
-- has to be forced.
pub record HasBytes {F : Type 0} (contents : F → Option (List ℕ)) (file : Opened F) (name : StoreFile)
    (at : ℕ) (bytes : List ℕ) : Type 0 where
  pub named : file.name ≡ name
  pub handed : IsHanded contents file.file bytes
  pub noted : SomeIff file.at (at + length bytes < 2 ^ 64) (at + length bytes)
  pub unforced : file.is_forced ≡ false

-- Of the open files the one that was changed last is the one of this name, and the last write to it was of
-- these bytes and began at this offset.
pub record IsWritten {F : Type 0} (contents : F → Option (List ℕ)) (files : List (Opened F))
    (name : StoreFile) (at : ℕ) (bytes : List ℕ) : Type 0 where
  pub before : List (Opened F)
  pub file : Opened F
  pub last : files ≡ before ++ file ∷ []
  pub has : HasBytes contents file name at bytes

-- Of the open files the one that was changed last is the one of this name, and it has to be forced.
pub record IsChangedLast {F : Type 0} (files : List (Opened F)) (name : StoreFile) : Type 0 where
  pub before : List (Opened F)
  pub file : Opened F
  pub last : files ≡ before ++ file ∷ []
  pub named : file.name ≡ name
  pub unforced : file.is_forced ≡ false

-- Of the open files the one that was changed last is the one of this name, and it was forced since.
pub record IsForcedLast {F : Type 0} (files : List (Opened F)) (name : StoreFile) : Type 0 where
  pub before : List (Opened F)
  pub file : Opened F
  pub last : files ≡ before ++ file ∷ []
  pub named : file.name ≡ name
  pub forced : IsTrue file.is_forced

-- Of the open files of this name the one that was changed last was forced, if it had to be, and stands after
-- all others now.
pub record WasForced {F : Type 0} (synced : F → Type 0) (old new : List (Opened F))
    (name : StoreFile) : Type 0 where
  pub before : List (Opened F)
  pub was : Opened F
  pub after : List (Opened F)
  pub stood : old ≡ before ++ was ∷ after
  pub latest : IsNotOpen after name
  pub file : Opened F
  pub last : new ≡ (before ++ after) ++ file ∷ []
  pub named : file.name ≡ name
  pub same : file.file ≡ was.file
  pub is_synced : IsTrue was.is_forced ⊎ synced file.file
  pub forced : IsTrue file.is_forced

-- All bytes of the stretch were handed to the system, last of all to the file of its segment, which was forced
-- since.
pub record IsStretchForced {F : Type 0} (contents : F → Option (List ℕ)) (files : List (Opened F))
    (stretch : Stretch) : Type 0 where
  pub before : List (Opened F)
  pub file : Opened F
  pub last : files ≡ before ++ file ∷ []
  pub named : file.name ≡ Segment stretch.seg
  pub handed : IsHanded contents file.file stretch.bytes
  pub forced : IsTrue file.is_forced

-- A folder was left: each file that was open was synced, unless it was forced since its last change, and so was
-- the one that was handed what was buffered before.
pub record LeavesSynced {F : Type 0} (contents : F → Option (List ℕ)) (synced : F → Type 0)
    (buffer : Stretch) (files : List (Opened F)) : Type 0 where
  pub idle : buffer.bytes ≡ [] → AreSynced synced files
  pub others : length files < OPEN_MAX → (file : Opened F) → file.name ≢ Segment buffer.seg
      → Contains files file → IsTrue file.is_forced ⊎ synced file.file
  pub buffered : 0 < length buffer.bytes → (file : F) × IsHanded contents file buffer.bytes × synced file

-- A segment was forced, after what was buffered was written: the file that was forced was handed what was
-- buffered of it, and is the one of it that was open before, unless as many were as may be.
pub record ForcesSegment {F : Type 0} (contents : F → Option (List ℕ)) (buffer : Stretch)
    (old new : List (Opened F)) (seg : ℕ) : Type 0 where
  pub buffered : 0 < length buffer.bytes → buffer.seg ≡ seg → IsStretchForced contents new buffer
  pub open_before : length old < OPEN_MAX → IsNotOpen old (Segment seg) ⊎ IsForcedLast new (Segment seg)

-- All bytes of the stretch were handed to the system, last of all.
abbrev pub IsStretchWritten : {F : Type 0} → (F → Option (List ℕ)) → List (Opened F) → Stretch → Type 0
IsStretchWritten contents files stretch =
    IsWritten contents files (Segment stretch.seg) stretch.at stretch.bytes

-- A write to a segment follows what was buffered before, or is alone in the buffer since that was
-- written, or was itself written last of all.
abbrev pub IsWrittenInOrder : {F : Type 0} → (F → Option (List ℕ)) → Stretch → Stretch
    → List (Opened F) → ℕ → ℕ → List ℕ → Type 0
IsWrittenInOrder contents old new files seg at more = IsAppended old new seg at more
    ⊎ ((IsAlone new seg at more × (0 < length old.bytes → IsStretchWritten contents files old))
    ⊎ ((new.bytes ≡ []) × IsWritten contents files (Segment seg) at more))
