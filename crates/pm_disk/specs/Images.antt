-- What a crash may leave of the disk.
--
-- A forced byte that no change since has written or cut is as it was. Each byte that a change has
-- written since, and all that lies past the forced end, may be anything. Files are independent.
use Rattle.std.specs.Prelude.{◌≡◌, ◌<◌, ◌≤◌, ◌+◌, ℕ, List, [], ◌∷◌, length, Option, Some, None, IsSome}
use Rattle.std.specs.Prelude.{IsNone, slice_get}
use Rattle.pm_disk.specs.Files.{Change, Write, Cut, Drop, File, bytes_of, changed, at_change}
use Rattle.pm_disk.specs.Worlds.{World}

-- the change wrote this byte or cut it off; where a crash leaves a removed file, it is as it was
abbrev pub Touches : Change → ℕ → Type 0
Touches (Write at bytes) i = (at ≤ i) × (i < at + length bytes)
Touches (Cut len) i = len ≤ i
Touches Drop i = ⊥

-- no change wrote this byte or cut it off
abbrev pub Untouched : List Change → ℕ → Type 0
Untouched [] i = Unit {0}
Untouched (change ∷ changes) i = (Touches change i → ⊥) × Untouched changes i

-- The change leaves what is there between two offsets as it is, and the file no shorter.
pub record KeepsRange (file : Option (List ℕ)) (change : Change) (low high : ℕ) : Type 0 where
  pub apart : (i : ℕ) → low ≤ i → i < high → i < length (bytes_of file) → Touches change i → ⊥
  pub same : (i : ℕ) → low ≤ i → i < high → i < length (bytes_of file)
      → slice_get (bytes_of (changed change file)) i ≡ slice_get (bytes_of file) i
  pub no_shorter : length (bytes_of file) ≤ length (bytes_of (changed change file))

-- After the change these bytes stand at this offset.
pub record Puts (file : Option (List ℕ)) (change : Change) (at : ℕ) (bytes : List ℕ) : Type 0 where
  pub long : at + length bytes ≤ length (bytes_of (changed change file))
  pub there : (i : ℕ) → i < length bytes
      → slice_get (bytes_of (changed change file)) (at + i) ≡ slice_get bytes i

-- What a crash may leave of a file that is there afterwards. An absent file has the length 0.
pub record LeavesBytes (file : File) (left : List ℕ) : Type 0 where
  -- it was there when it was last forced, or after a change since
  pub was_there : (k : ℕ) × (k ≤ length file.since) × IsSome (at_change file k)
  -- at one of these moments it was no longer than what is left
  pub no_shorter : (k : ℕ) × (k ≤ length file.since) × (length (bytes_of (at_change file k)) ≤ length left)
  -- at one of these moments it was no shorter than what is left
  pub no_longer : (k : ℕ) × (k ≤ length file.since) × (length left ≤ length (bytes_of (at_change file k)))
  -- a forced byte that no change touched is as it was
  pub kept : (i : ℕ) → i < length left → i < length (bytes_of file.forced) → Untouched file.since i
      → slice_get left i ≡ slice_get (bytes_of file.forced) i

-- What a crash may leave of a file: none only where it was absent at its last force or after a change since.
abbrev pub Leaves : File → Option (List ℕ) → Type 0
Leaves file None = (k : ℕ) × (k ≤ length file.since) × IsNone (at_change file k)
Leaves file (Some left) = LeavesBytes file left

-- Chance made nothing valid: what reads as valid at a place of what was left stood there whole, by
-- the same grammar, when the file was last forced or after a change since.
pub record IsTrueOf {X : Type 0} (valid : ℕ → List ℕ → Option X) (file : File)
    (left : Option (List ℕ)) : Type 0 where
  pub stood : (at : ℕ) (x : X) → valid at (bytes_of left) ≡ Some x
      → (k : ℕ) × (k ≤ length file.since) × (valid at (bytes_of (at_change file k)) ≡ Some x)

-- One image of the disk: the content of each file that a crash left, none where the file is absent.
pub record Image : Type 0 where
  pub log : ℕ → Option (List ℕ)
  pub pages : ℕ → Option (List ℕ)
  pub starts : Option (List ℕ)
  pub ends : Option (List ℕ)

-- What a crash at a moment at which the world was so may leave of all files.
pub record LeavesAll (world : World) (image : Image) : Type 0 where
  pub log : (seg : ℕ) → Leaves (world.log seg) (image.log seg)
  pub pages : (part : ℕ) → Leaves (world.pages part) (image.pages part)
  pub starts : Leaves world.starts image.starts
  pub ends : Leaves world.ends image.ends

-- Nothing is pending: no file was changed since it was last forced.
pub record NothingPending (world : World) : Type 0 where
  pub log : (seg : ℕ) → (world.log seg).since ≡ []
  pub pages : (part : ℕ) → (world.pages part).since ≡ []
  pub starts : world.starts.since ≡ []
  pub ends : world.ends.since ≡ []

-- The bytes between these offsets are lasting: they were forced, and no change since touched them or left the
-- file shorter.
pub record Lasting (file : File) (low high : ℕ) : Type 0 where
  pub forced : high ≤ length (bytes_of file.forced)
  pub untouched : (i : ℕ) → low ≤ i → i < high → Untouched file.since i
  pub long : (k : ℕ) → k ≤ length file.since → high ≤ length (bytes_of (at_change file k))
  pub same : (k : ℕ) → k ≤ length file.since → (i : ℕ) → low ≤ i → i < high
      → slice_get (bytes_of (at_change file k)) i ≡ slice_get (bytes_of file.forced) i
