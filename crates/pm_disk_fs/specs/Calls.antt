-- What calls of the system were made on.
use Rattle.std.specs.Prelude.{◌≡◌, ◌⊎◌, ℕ, List, [], ◌∷◌, codes, Option, Some, IsSomeAnd, MatchOption}
use Rattle.std.specs.Prelude.{Bool, true, false, IsTrue, Contains}
use Rattle.std.specs.Path.{path_join}
use Rattle.std.specs.declared.fs.options.OpenOptions.{OpenOptions}
use Rattle.std.specs.Fs.{new_options, with_read, with_write, with_create_new}
use Rattle.pm_disk.specs.declared.names.StoreFile.{StoreFile}
use Rattle.pm_disk_fs.specs.declared.opened.Opened.{Opened}
use Rattle.pm_disk_fs.specs.Paths.{IsPathOf}

-- how a file is opened that is only read
abbrev pub to_read : OpenOptions
to_read = with_read new_options true

-- how one that is there is opened to be changed
abbrev pub to_change : OpenOptions
to_change = with_write new_options true

-- how one is made, to be changed
abbrev pub to_make : OpenOptions
to_make = with_create_new to_change true

-- A call was made by the path of a file in the folder, which is bound.
pub record IsMadeAt (folder : Option (List ℕ)) (name : StoreFile) (made : List ℕ → Type 0) : Type 0 where
  pub path : List ℕ
  pub is_path : IsPathOf folder name path
  pub is_made : made path

-- What the file of this name had was measured so, none where it wasn't there.
abbrev pub IsMeasuredAt : (List ℕ → Type 0) → (List ℕ → ℕ → Type 0) → Option (List ℕ) → StoreFile → Option ℕ
    → Type 0
IsMeasuredAt missing measured folder name found =
    IsMadeAt folder name (λ path. MatchOption found (missing path) (measured path))

-- the path by which the system knows a folder: none is the one where the process runs
abbrev pub folder_path : List ℕ → List ℕ
folder_path [] = codes "."
folder_path (first ∷ rest) = first ∷ rest

-- The folder of this path was opened, and the names in it were made lasting.
pub record AreNamesSynced {F : Type 0} (opened : OpenOptions → List ℕ → F → Type 0) (synced : F → Type 0)
    (path : List ℕ) : Type 0 where
  pub file : F
  pub is_opened : opened to_read (folder_path path) file
  pub is_synced : synced file

-- The folder of this path was opened, and its lock was taken, by the file that is given, or is at hand already.
abbrev pub IsLocked : {F : Type 0} → (OpenOptions → List ℕ → F → Type 0) → (F → Type 0) → (F → F → Type 0)
    → List ℕ → Option F → Option F → Type 0
IsLocked {F} opened locked same_file path at_hand lock = (folder : F) × opened to_read (folder_path path) folder
    × MatchOption lock (IsSomeAnd at_hand (λ held. same_file held folder))
    (λ file. (file ≡ folder) × locked file)

-- The names in the folder, which is bound, last: they did before, or were made lasting by a call.
abbrev pub DoNamesLast : {F : Type 0} → (OpenOptions → List ℕ → F → Type 0) → (F → Type 0) → Bool
    → Option (List ℕ) → Type 0
DoNamesLast opened synced lasted folder =
    IsTrue lasted ⊎ IsSomeAnd folder (λ path. AreNamesSynced opened synced path)

-- The file was opened to be changed, at the path of this name, or made there, and then the names in the folder
-- have to be made lasting.
abbrev pub IsOpenedToChange : {F : Type 0} → (OpenOptions → List ℕ → F → Type 0) → Option (List ℕ) → StoreFile
    → Bool → F → Type 0
IsOpenedToChange opened folder name names_last file = IsMadeAt folder name (λ path. opened to_change path file)
    ⊎ (IsMadeAt folder name (λ path. opened to_make path file) × (names_last ≡ false))

-- The file of this name was there before: it was open, or was opened to be changed, and not made.
abbrev pub WasThere : {F : Type 0} → (OpenOptions → List ℕ → F → Type 0) → Option (List ℕ)
    → List (Opened F) → StoreFile → Type 0
WasThere {F} opened folder files name = ((file : Opened F) × Contains files file × (file.name ≡ name))
    ⊎ ((file : F) × IsMadeAt folder name (λ path. opened to_change path file))

-- At the path of this name there was no file, or the file there was opened, and its bytes and its length were
-- made lasting.
abbrev pub IsSyncedAt : {F : Type 0} → (OpenOptions → List ℕ → F → Type 0) → (List ℕ → Type 0) → (F → Type 0)
    → Option (List ℕ) → StoreFile → Type 0
IsSyncedAt {F} opened missing synced folder name =
    IsMadeAt folder name (λ path. missing path ⊎ ((file : F) × opened to_read path file × synced file))

-- The folder of this name is bound, and the name lasts.
pub record IsBoundTo {F : Type 0} (opened : OpenOptions → List ℕ → F → Type 0) (synced : F → Type 0)
    (folder : Option (List ℕ)) (dir : List ℕ) : Type 0 where
  pub bound : folder ≡ Some dir
  pub lasts : AreNamesSynced opened synced (path_join dir (codes ".."))
