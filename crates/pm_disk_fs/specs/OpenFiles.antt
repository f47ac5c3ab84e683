-- The files that are open since they were changed.
use Rattle.std.specs.Prelude.{◌≡◌, ◌≢◌, ◌<◌, ◌≤◌, ◌+◌, ◌∷◌, ◌++◌, Bool, true, false, List, length, filter, ◌==◌}
use Rattle.std.specs.Prelude.{◌⊎◌, if◌then◌else◌, remove, Contains, All, IsTrue}
use Rattle.pm_disk.specs.declared.names.StoreFile.{StoreFile}
use Rattle.pm_disk.specs.declared.names.StoreFile.TheVariants.{Config, Marks, Segment, Pages}
use Rattle.pm_disk_fs.specs.declared.opened.Opened.{Opened}
use Rattle.pm_disk_fs.specs.declared.open_files.TheConstants.{OPEN_MAX}

-- No open file has this name.
abbrev pub IsNotOpen : {F : Type 0} → List (Opened F) → StoreFile → Type 0
IsNotOpen files name = All (λ file. file.name ≢ name) files

-- The file of this name was taken out of the files, the one that was changed last where several have it, and
-- each other one is left.
pub record IsTakenOut {F : Type 0} (old new : List (Opened F)) (name : StoreFile)
    (file : Opened F) : Type 0 where
  pub named : file.name ≡ name
  pub before : List (Opened F)
  pub after : List (Opened F)
  pub was : old ≡ before ++ file ∷ after
  pub is : new ≡ before ++ after
  pub latest : IsNotOpen after name

-- Each of the files is among the others.
pub record AreAmong {F : Type 0} (files others : List (Opened F)) : Type 0 where
  pub each : All (λ file. Contains others file) files

-- Each of the files was forced since its last change.
abbrev pub AreForced : {F : Type 0} → List (Opened F) → Type 0
AreForced files = All (λ file. IsTrue file.is_forced) files

-- Each of the files was forced since its last change, or is synced now.
pub record AreSynced {F : Type 0} (synced : F → Type 0) (files : List (Opened F)) : Type 0 where
  pub each : All (λ file. IsTrue file.is_forced ⊎ synced file.file) files

-- the files, without the one that was changed longest ago where they are as many as may be open
abbrev pub after_oldest : {F : Type 0} → List (Opened F) → List (Opened F)
after_oldest files = if length files == OPEN_MAX then remove files 0 else files

-- Each file of another name that was open still is, unless as many were open as may be.
pub record OthersStayOpen {F : Type 0} (old new : List (Opened F)) (name : StoreFile) : Type 0 where
  pub stay : length old < OPEN_MAX → (file : Opened F) → file.name ≢ name → Contains old file
      → Contains new file

-- a segment of the log
abbrev pub is_segment : StoreFile → Bool
is_segment (Segment seg) = true
is_segment (Pages part) = false
is_segment (Marks file) = false
is_segment Config = false

-- a partition's file
abbrev pub is_pages : StoreFile → Bool
is_pages (Pages part) = true
is_pages (Segment seg) = false
is_pages (Marks file) = false
is_pages Config = false

-- a file that is neither
abbrev pub is_other : StoreFile → Bool
is_other (Marks file) = true
is_other Config = true
is_other (Segment seg) = false
is_other (Pages part) = false

-- Each file is with those of its kind, in the order in which they were changed.
pub record AreSorted {F : Type 0} (files segments pages others : List (Opened F)) : Type 0 where
  pub segments_are : segments ≡ filter (λ file. is_segment file.name) files
  pub pages_are : pages ≡ filter (λ file. is_pages file.name) files
  pub others_are : others ≡ filter (λ file. is_other file.name) files

-- The files of two parts stand after those that stayed, unless there are more than may be open.
pub record AreJoined {F : Type 0} (stayed segments pages files : List (Opened F)) : Type 0 where
  pub all : length stayed + length segments + length pages ≤ OPEN_MAX
      → files ≡ (stayed ++ segments) ++ pages
