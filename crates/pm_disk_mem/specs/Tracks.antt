-- A file in memory, from the start on.
use Rattle.std.specs.Prelude.{◌≡◌, ◌≤◌, ℕ, List, [], length, take, drop, Option}
use Rattle.pm_disk.specs.Files.{Change, File, after}
use Rattle.pm_disk_mem.specs.Changes.{CanAll}

-- What a file was at the start, and its value now.
pub record Track : Type 0 where
  pub start : Option (List ℕ)
  pub file : File

-- a file that holds these bytes, or is absent, with nothing pending
abbrev pub settled : Option (List ℕ) → File
settled bytes = record { forced = bytes; since = [] }

-- a file at the start
abbrev pub new_track : Option (List ℕ) → Track
new_track start = record { start = start; file = settled start }

-- a file that changed so since the start, where a prefix of this length of the changes is lasting
abbrev pub track_of : Option (List ℕ) → List Change → ℕ → Track
track_of start changes lasting = record {
  start = start;
  file = record { forced = after (take lasting changes) start; since = drop lasting changes };
}

-- What is held is the file after its changes, and each of these could be made.
pub record Holds (held start : Option (List ℕ)) (changes : List Change) (lasting : ℕ) : Type 0 where
  pub now : held ≡ after changes start
  pub within : lasting ≤ length changes
  pub can : CanAll changes start
