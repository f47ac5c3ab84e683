-- What reads of files gave.
use Rattle.std.specs.Prelude.{◌≡◌, ◌<◌, ◌≤◌, ◌+◌, ◌^◌, ◌⊎◌, ℕ, List, [], ◌∷◌, length, All, Option}
use Rattle.std.specs.Prelude.{Bool, true, false, ⊤}
use Rattle.std.specs.List.{concat}
use Rattle.std.specs.declared.fs.options.OpenOptions.{OpenOptions}
use Rattle.pm_disk.specs.declared.names.StoreFile.{StoreFile}
use Rattle.pm_disk_fs.specs.declared.opened.Opened.{Opened}
use Rattle.pm_disk_fs.specs.Calls.{IsMadeAt, to_read}

-- Reads of this file gave these pieces: the first one from this offset on, each next one from where the one
-- before it ended.
abbrev pub DidGive : {F : Type 0} → (F → ℕ → List ℕ → Type 0) → F → ℕ → List (List ℕ) → Type 0
DidGive gave file at [] = ⊤
DidGive gave file at (piece ∷ pieces) = gave file at piece × DidGive gave file (at + length piece) pieces

-- These bytes, from this offset on, are what reads of this file gave, one after the other.
pub record IsGiven {F : Type 0} (gave : F → ℕ → List ℕ → Type 0) (file : F) (at : ℕ)
    (bytes : List ℕ) : Type 0 where
  pub pieces : List (List ℕ)
  pub given : DidGive gave file at pieces
  pub are : bytes ≡ concat pieces

-- This file has no byte from this offset on: a read for some gave none, or no offset is so large.
abbrev pub IsAtEnd : {F : Type 0} → (F → ℕ → List ℕ → Type 0) → F → ℕ → Type 0
IsAtEnd gave file at = gave file at [] ⊎ (2 ^ 64 ≤ at)

-- Of so many bytes of this file, from this offset on, these were read. They are fewer only where it ends.
pub record IsRead {F : Type 0} (gave : F → ℕ → List ℕ → Type 0) (file : F) (at wanted : ℕ)
    (bytes : List ℕ) : Type 0 where
  pub given : IsGiven gave file at bytes
  pub end : length bytes < wanted → IsAtEnd gave file (at + length bytes)

-- The same of the file of this name, which was opened to be read, at its path in the folder; or there was none,
-- and no byte was read.
abbrev pub IsReadAt : {F : Type 0} → (OpenOptions → List ℕ → F → Type 0) → (List ℕ → Type 0)
    → (F → ℕ → List ℕ → Type 0) → Option (List ℕ) → StoreFile → ℕ → ℕ → List ℕ → Type 0
IsReadAt {F} opened missing gave folder name at wanted bytes = IsMadeAt folder name (λ path.
    (missing path × (bytes ≡ [])) ⊎ ((file : F) × opened to_read path file × IsRead gave file at wanted bytes))

-- Each of the files was opened to be read, at the path of its name.
pub record AreOpenedToRead {F : Type 0} (opened : OpenOptions → List ℕ → F → Type 0) (folder : Option (List ℕ))
    (files : List (Opened F)) : Type 0 where
  pub each : All (λ file. IsMadeAt folder file.name (λ path. opened to_read path file.file)) files

-- Of a range that is as long as the buffer so much was read: all of it, which the buffer has, or less.
pub record IsRange (was_read : ℕ → List ℕ → Type 0) (whole : Bool) (buffer : List ℕ) : Type 0 where
  pub bytes : List ℕ
  pub is_read : was_read (length buffer) bytes
  pub all : whole ≡ true → buffer ≡ bytes
  pub fewer : whole ≡ false → length bytes < length buffer
