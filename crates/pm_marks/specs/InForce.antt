-- The checkpoint in force: its start marker is the valid one of the highest number, and it is ended
-- where the slot of its number in the file of end markers has the same bytes.
use Rattle.std.specs.Prelude.{ℕ, Bool, true, false, nat_eq, nat_lt, if◌then◌else◌, List, Option, Some, None}
use Rattle.std.specs.Cmp.Lexicographic.{pointwise}
use Rattle.pm_types.specs.declared.place.Place.{Place}
use Rattle.pm_types.specs.declared.shape.Mark.{Mark}
use Rattle.pm_marks.specs.declared.marks.Marks.{Marks}
use Rattle.pm_marks.specs.Slots.{slot_bytes, slot_of, bytes_in_slot, mark_at}

-- The checkpoint in force: none, one without its end marker, or one that is ended.
pub data Checkpoint : Type 0 where
  NoStart : Checkpoint
  Started : (mark : Mark) → Checkpoint
  Ended : (mark : Mark) → Checkpoint

-- of two marks the one of the higher number
abbrev pub higher : Option Mark → Option Mark → Option Mark
higher None other = other
higher (Some mark) None = Some mark
higher (Some mark) (Some other) = if nat_lt mark.number other.number then Some other else Some mark

-- the start marker in force, over the bytes of the file of start markers
abbrev pub start_in : List ℕ → Option Mark
start_in starts = higher (mark_at 0 starts) (mark_at 1 starts)

-- whether the slot of a mark's number has that mark's bytes
abbrev pub has_slot : List ℕ → Mark → Bool
has_slot file mark = pointwise nat_eq (bytes_in_slot (slot_of mark.number) file) (slot_bytes mark)

-- the checkpoint with this start marker, over the bytes of the file of end markers
abbrev pub checkpoint_of : Option Mark → List ℕ → Checkpoint
checkpoint_of None ends = NoStart
checkpoint_of (Some mark) ends = if has_slot ends mark then Ended mark else Started mark

-- the checkpoint in force, over the bytes of the two marker files
abbrev pub checkpoint_in : List ℕ → List ℕ → Checkpoint
checkpoint_in starts ends = checkpoint_of (start_in starts) ends

-- what is read of the marker files where this checkpoint is in force
abbrev pub marks_of : Checkpoint → Marks
marks_of NoStart = record { start = None; ended = false }
marks_of (Started mark) = record { start = Some mark; ended = false }
marks_of (Ended mark) = record { start = Some mark; ended = true }

-- its number, and 0 where there is none
abbrev pub number_in : Checkpoint → ℕ
number_in NoStart = 0
number_in (Started mark) = mark.number
number_in (Ended mark) = mark.number

-- the place from which the log is applied
abbrev pub replay_of : Checkpoint → Place
replay_of NoStart = record { seg = 1; off = 0 }
replay_of (Started mark) = mark.replay
replay_of (Ended mark) = mark.replay
