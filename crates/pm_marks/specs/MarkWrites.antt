-- How a marker is written: where its file ends before the end of the first slot, zeros are written to that
-- slot; then the mark's slot is written, and the file is forced.
--
-- Without the zeros a write of the second slot would fill a part of a first slot, which a crash left, up with
-- zeros, and what stands there then might be a valid slot by chance.
use Rattle.std.specs.Prelude.{◌≡◌, ◌≤◌, ◌⊎◌, ℕ, nat_lt, if◌then◌else◌, Option, List, length, replicate}
use Rattle.std.specs.Prelude.{Result, OnOk}
use Rattle.pm_types.specs.declared.shape.Mark.{Mark}
use Rattle.pm_disk.specs.declared.mark.MarkFile.{MarkFile}
use Rattle.pm_disk.specs.declared.mark.MarkFile.TheVariants as marker
use Rattle.pm_disk.specs.declared.mark.TheConstants.{SLOT_LEN}
use Rattle.pm_disk.specs.Files.{File, Change, bytes_of, content, with_change}
use Rattle.pm_disk.specs.Worlds.{World, marks_in, marks_changed, marks_forced, slot_change}
use Rattle.pm_disk.specs.Moments.{History, AllMoments}
use Rattle.pm_marks.specs.Slots.{slot_bytes, slot_of}

-- the mark is written to its slot of a marker file that was so
abbrev pub mark_change : Option (List ℕ) → Mark → Change
mark_change file mark = slot_change file (slot_of mark.number) (slot_bytes mark)

-- zeros are written to the first slot of a marker file that was so
abbrev pub first_change : Option (List ℕ) → Change
first_change file = slot_change file 0 (replicate SLOT_LEN 0)

-- the first slot of a marker file is there in full
abbrev pub HasFirstSlot : File → Type 0
HasFirstSlot file = SLOT_LEN ≤ length (bytes_of (content file))

-- a marker file with its first slot: zeros are written there where the file ends before the slot does
abbrev pub with_first : File → File
with_first file =
    if nat_lt (length (bytes_of (content file))) SLOT_LEN then with_change file (first_change (content file)) else file

-- a marker file is made to have its first slot
abbrev pub first_written : MarkFile → World → World
first_written marker.Start world = record world { starts = with_first world.starts }
first_written marker.End world = record world { ends = with_first world.ends }

-- the mark was written to its slot
abbrev pub mark_written : MarkFile → Mark → World → World
mark_written file mark world = marks_changed file (mark_change (marks_in world file) mark) world

-- the file was made to have its first slot, the mark was written to its slot, and the file was forced
abbrev pub mark_forced : MarkFile → Mark → World → World
mark_forced file mark world = marks_forced file (mark_written file mark (first_written file world))

-- nothing is done yet, or the first slot is there
abbrev pub WritesFirstSoFar : MarkFile → World → World → Type 0
WritesFirstSoFar file old now = (now ≡ old) ⊎ (now ≡ first_written file old)

-- At `Ok` the first slot is there, and at each moment it is there or nothing is done.
pub record WritesFirst {T E : Type 0} (old new : History) (result : Result T E) (file : MarkFile)
    : Type 0 where
  pub written : OnOk result (new.world ≡ first_written file old.world)
  pub moments : AllMoments old new (WritesFirstSoFar file old.world)

-- nothing is done yet, or the first slot is there, or the mark is written too, or forced too
abbrev pub WritesMarkSoFar : MarkFile → Mark → World → World → Type 0
WritesMarkSoFar file mark old now = (now ≡ old)
    ⊎ ((now ≡ first_written file old)
    ⊎ ((now ≡ mark_written file mark (first_written file old)) ⊎ (now ≡ mark_forced file mark old)))

-- At `Ok` the mark is written and forced, and at each moment it was written so far.
pub record WritesMark {T E : Type 0} (old new : History) (result : Result T E) (file : MarkFile)
    (mark : Mark) : Type 0 where
  pub forced : OnOk result (new.world ≡ mark_forced file mark old.world)
  pub moments : AllMoments old new (WritesMarkSoFar file mark old.world)
