-- What each pick leaves of a file.
use Rattle.std.specs.Prelude.{◌≡◌, ◌+◌, ◌-◌, ℕ, zero, suc, List, [], ◌∷◌, ◌++◌, length, take, replicate}
use Rattle.std.specs.Prelude.{map, Option, Some}
use Rattle.pm_disk.specs.Files.{Change, Write, Cut, Drop, File, bytes_of, after, changed, content}
use Rattle.pm_disk_mem.specs.Changes.{change_of}
use Rattle.pm_disk.specs.Worlds.{World}
use Rattle.pm_disk_mem.specs.Disks.{Store, content_at, config_file}
use Rattle.pm_disk_mem.specs.declared.change.FileChange.{FileChange}
use Rattle.pm_disk_mem.specs.declared.pick.Pick.{Pick}
use Rattle.pm_disk_mem.specs.declared.pick.Pick.TheVariants as pick

-- the file with this byte in place of each one that the change wrote or cut off, and no shorter than it was
abbrev pub filled_by : ℕ → Change → Option (List ℕ) → Option (List ℕ)
filled_by byte (Write at bytes) file = changed (Write at (replicate (length bytes) byte)) file
filled_by byte (Cut len) file = Some (take len (bytes_of file) ++ replicate (length (bytes_of file) - len) byte)
filled_by byte Drop file = file

-- the same after these changes
abbrev pub filled : ℕ → List Change → Option (List ℕ) → Option (List ℕ)
filled byte [] file = file
filled byte (change ∷ changes) file = filled byte changes (filled_by byte change file)

-- how many bytes the change writes
abbrev pub written_by : Change → ℕ
written_by (Write at bytes) = length bytes
written_by (Cut len) = 0
written_by Drop = 0

-- how many bytes these changes write
abbrev pub written : List Change → ℕ
written [] = 0
written (change ∷ changes) = written_by change + written changes

-- the file with these bytes from the offset on, and as it is where there are none
abbrev pub laid_over : ℕ → List ℕ → Option (List ℕ) → Option (List ℕ)
laid_over at [] file = file
laid_over at (byte ∷ bytes) file = changed (Write at (byte ∷ bytes)) file

-- the file with a prefix of this length of the bytes that the change writes
abbrev pub laid_by : ℕ → Change → Option (List ℕ) → Option (List ℕ)
laid_by count (Write at bytes) file = laid_over at (take count bytes) file
laid_by count (Cut len) file = file
laid_by count Drop file = file

-- the file with a prefix of this length of the bytes that these changes write
abbrev pub laid : ℕ → List Change → Option (List ℕ) → Option (List ℕ)
laid count [] file = file
laid count (change ∷ changes) file = laid (count - written_by change) changes (laid_by count change file)

-- what a crash leaves of a file by this pick
abbrev pub left_by : Pick → File → Option (List ℕ)
left_by pick.Kept file = content file
left_by pick.Lost file = file.forced
left_by (pick.Fill byte) file = filled byte file.since file.forced
left_by (pick.Cut count) file = laid count file.since file.forced

-- how many bytes are pending in the segments below this one
abbrev pub written_below : (ℕ → File) → ℕ → ℕ
written_below log zero = 0
written_below log (suc seg) = written_below log seg + written (log seg).since

-- the pick for this segment: of the bytes of a cut those in the segments below are laid before
abbrev pub pick_at : Pick → (ℕ → File) → ℕ → Pick
pick_at (pick.Cut count) log seg = pick.Cut (count - written_below log seg)
pick_at pick.Kept log seg = pick.Kept
pick_at pick.Lost log seg = pick.Lost
pick_at (pick.Fill byte) log seg = pick.Fill byte

-- these contents are what a crash leaves of a family of files by this pick
abbrev pub ArePicked : Pick → (ℕ → File) → List (ℕ × List ℕ) → Type 0
ArePicked pick files contents = (n : ℕ) → content_at contents n ≡ left_by (pick_at pick files n) (files n)

-- the pick for all files but the log's segments: of these a cut leaves nothing that is pending
abbrev pub pick_beside : Pick → Pick
pick_beside (pick.Cut count) = pick.Lost
pick_beside pick.Kept = pick.Kept
pick_beside pick.Lost = pick.Lost
pick_beside (pick.Fill byte) = pick.Fill byte

-- Each file of the store is what a crash in this world leaves of it by this pick.
pub record IsPicked (pick : Pick) (world : World) (store : Store) : Type 0 where
  pub log : ArePicked pick world.log store.log
  pub pages : (part : ℕ) → content_at store.pages part ≡ left_by (pick_beside pick) (world.pages part)
  pub starts : store.starts ≡ left_by (pick_beside pick) world.starts
  pub ends : store.ends ≡ left_by (pick_beside pick) world.ends
  pub config : store.config ≡ config_file world.config

-- the pick for the next segment of which there is a file: of a cut the bytes that this one has are there
abbrev pub pick_after : Pick → File → Pick
pick_after pick.Kept file = pick.Kept
pick_after pick.Lost file = pick.Lost
pick_after (pick.Fill byte) file = pick.Fill byte
pick_after (pick.Cut count) file = pick.Cut (count - written file.since)

-- the file with such a start and these changes, of which the first ones are lasting
abbrev pub file_of : Option (List ℕ) → List FileChange → List FileChange → File
file_of start lasting pending =
    record { forced = after (map change_of lasting) start; since = map change_of pending }
