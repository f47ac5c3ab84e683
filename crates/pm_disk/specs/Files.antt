-- One file: what a read finds, and what was changed since it was last forced.
use Rattle.std.specs.Prelude.{◌≡◌, ◌≤◌, ◌↔◌, ◌+◌, ◌-◌, ℕ, min, List, [], ◌∷◌, ◌++◌, length, take, drop}
use Rattle.std.specs.Prelude.{replicate, Option, Some, None, Bool, false, IsTrue}

-- One change of a file.
pub data Change : Type 0 where
  -- these bytes were written from this offset on; a gap before it belongs to the bytes
  Write : (at : ℕ) (bytes : List ℕ) → Change
  -- the file was cut to this length
  Cut : (len : ℕ) → Change
  -- the file was removed
  Drop : Change

-- the bytes that a read finds: an absent file has none
abbrev pub bytes_of : Option (List ℕ) → List ℕ
bytes_of None = []
bytes_of (Some bytes) = bytes

-- the file after a change, or none where it is absent then
abbrev pub changed : Change → Option (List ℕ) → Option (List ℕ)
changed (Write at bytes) file =
    Some (take at (bytes_of file) ++ bytes ++ drop (at + length bytes) (bytes_of file))
changed (Cut len) file = Some (take len (bytes_of file))
changed Drop file = None

-- the file after these changes, the first of them first
abbrev pub after : List Change → Option (List ℕ) → Option (List ℕ)
after [] file = file
after (change ∷ changes) file = after changes (changed change file)

-- A file's value: its content when it was last forced (none where it was absent), and the changes
-- since, oldest first.
pub record File : Type 0 where
  pub forced : Option (List ℕ)
  pub since : List Change

-- what a read finds
abbrev pub content : File → Option (List ℕ)
content file = after file.since file.forced

-- the file so many changes after its last force
abbrev pub at_change : File → ℕ → Option (List ℕ)
at_change file k = after (take k file.since) file.forced

-- the file after one change more
abbrev pub with_change : File → Change → File
with_change file change = record { forced = file.forced; since = file.since ++ change ∷ [] }

-- the file as it is, all of it lasting
abbrev pub all_forced : File → File
all_forced file = record { forced = content file; since = [] }

-- a file that isn't there
abbrev pub absent : File
absent = record { forced = None; since = [] }

-- So many bytes of the file from this offset on were read to the front of a buffer: as many as fit,
-- or as there are.
pub record ReadsFrom (file : Option (List ℕ)) (at count : ℕ) (buffer : List ℕ) : Type 0 where
  pub many : count ≡ min (length buffer) (length (bytes_of file) - at)
  pub front : take count buffer ≡ take count (drop at (bytes_of file))

-- A whole range of the file, from this offset on and as long as the buffer, was read to the buffer.
-- Where the file ends before the range does, the buffer has zeros.
pub record ReadsWhole (file : Option (List ℕ)) (at : ℕ) (whole : Bool) (buffer : List ℕ) : Type 0 where
  pub there : IsTrue whole ↔ (at + length buffer ≤ length (bytes_of file))
  pub found : IsTrue whole → buffer ≡ take (length buffer) (drop at (bytes_of file))
  pub zeros : whole ≡ false → buffer ≡ replicate (length buffer) 0

-- how many bytes are missing between the file's end and this offset
abbrev pub missing : ℕ → Option (List ℕ) → ℕ
missing at file = at - length (bytes_of file)

-- These bytes are written at this offset. Where the file ends before it, the gap is written too,
-- from the file's end on.
abbrev pub gapped : Option (List ℕ) → ℕ → List ℕ → List ℕ → Change
gapped file at gap bytes = Write (min at (length (bytes_of file))) (gap ++ bytes)
