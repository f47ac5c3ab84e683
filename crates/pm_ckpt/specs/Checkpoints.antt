-- A whole checkpoint: when it may be made, and which steps of the disk machine it makes.
--
--   CP_BEGIN is appended, and the log forced past it
--   the first slot of the file of start markers is made to be there, and the start marker is written and forced
--   each page of the checkpoint is written to its file, by rising partition and index
--   the files of these pages are forced
--   the same of the end marker
--   the segments below both places of the mark are dropped, and the absence of each is forced
use Rattle.std.specs.Prelude.{◌≡◌, ◌≤◌, ◌<◌, ◌+◌, ◌^◌, ℕ, List, [], ◌++◌, map, None, Result}
use Rattle.pm_types.specs.declared.page_id.PageId.{PageId}
use Rattle.pm_types.specs.declared.shape.Mark.{Mark}
use Rattle.pm_types.specs.declared.shape.Shape.{Shape}
use Rattle.pm_types.specs.declared.place.Place.{Place}
use Rattle.pm_frame.specs.Frames.{Frame}
use Rattle.pm_records.specs.LogFiles.{Written, contents}
use Rattle.pm_records.specs.Logs.{place}
use Rattle.pm_disk.specs.Moments.{History}
use Rattle.pm_disk.specs.Worlds.{World, segment_in}
use Rattle.pm_marks.specs.InForce.{Started, Ended}
use Rattle.pm_marks.specs.Slots.{IsMark}
use Rattle.pm_core.specs.BasePages.{Partitions}
use Rattle.pm_core.specs.Calls.{MakesSteps, begin_steps, finish_steps}
use Rattle.pm_core.specs.Held.{in_force}
use Rattle.pm_core.specs.LogAlone.{image_of}
use Rattle.pm_core.specs.Machine.{DiskStep, CanStart, CanAll, states, worlds}
use Rattle.pm_core.specs.Rounds.{on_log}
use Rattle.pm_core.specs.States.{State}
use Rattle.pm_core.specs.Stands.{Stands}
use Rattle.pm_segments.specs.Appends.{grown}
use Rattle.pm_segments.specs.Drops.{drop_before_steps}
use Rattle.pm_segments.specs.Ends.{LogEnd, LogIsOpen, EndsThere}
use Rattle.pm_ckpt.specs.Marked.{begin_frame, begin_log, kept_segment, log_after}
use Rattle.pm_ckpt.specs.Writes.{Writing, written_page, write_steps, named_of, IsOrderOf, AreHome}

-- up to the start marker
abbrev pub opening_steps : LogEnd → Mark → Partitions → List DiskStep
opening_steps log mark rebuilt = on_log (begin_log log mark) ++ begin_steps mark rebuilt

-- up to the end marker
abbrev pub ending_steps : LogEnd → Mark → Partitions → Partitions → List Writing → List DiskStep
ending_steps log mark rebuilt held writings = opening_steps log mark rebuilt
    ++ (write_steps held writings ++ finish_steps mark (map written_page writings))

-- all of them
abbrev pub whole_steps : LogEnd → Mark → Partitions → Partitions → List Writing → State → World → List DiskStep
whole_steps log mark rebuilt held writings s world =
    let ended : World = worlds (ending_steps log mark rebuilt held writings) s world in
    ending_steps log mark rebuilt held writings
    ++ on_log (drop_before_steps (grown log (begin_frame mark)) (kept_segment mark) ended)

-- how far the log of a state is written
abbrev pub written_so : State → Written
written_so s = record { at = s.at; lasting = []; pending = s.pending; tail = s.tail }

-- a log isn't empty of which these frames are pending after this place
pub record IsBegunLog (at : Place) (pending : List Frame) : Type 0 where
  pub from_one : 1 ≤ at.seg
  pub has_frame : at ≡ place 1 0 → pending ≡ [] → ⊥

-- In this state a whole checkpoint with this mark may be made, of these pages.
pub record CanCheckpoint (wanted : Shape) (told : List ℕ → ℕ) (s : State) (log : LogEnd) (mark : Mark)
    (held : Partitions) (dirty : List PageId) (world : World) : Type 0 where
  pub stands : Stands wanted told s world
  pub ends : s.end ≡ log.end
  -- the log goes on: its tail was cut and forced, and it has its RESTART
  pub is_open : LogIsOpen log (written_so s)
  pub begun : IsBegunLog s.at s.pending
  -- once CP_BEGIN is appended and forced, the start marker may be written, and the log rebuilds these pages
  pub rebuilt : Partitions
  pub guard : CanStart mark rebuilt (states (on_log (begin_log log mark)) s world)
      (worlds (on_log (begin_log log mark)) s world)
  pub rebuilds : (part index : ℕ) → rebuilt part index ≡ named_of held dirty part index

-- In this state the checkpoint runs, and the log rebuilds these pages for it.
pub record CanEndOnce (wanted : Shape) (told : List ℕ → ℕ) (s : State) (mark : Mark) (held : Partitions)
    (order : List PageId) (world : World) : Type 0 where
  pub stands : Stands wanted told s world
  pub runs : s.now.checkpoint ≡ Started mark
  pub alone : s.soon ≡ None
  pub fits : IsMark mark
  pub shaped : mark.shape ≡ s.shape
  pub rebuilds : (part index : ℕ) → s.now.rebuilt part index ≡ named_of held order part index

-- In some state of the disk it may be ended once these pages are written.
pub record MayEnd (mark : Mark) (held : Partitions) (order : List PageId) (world : World) : Type 0 where
  pub wanted : Shape
  pub told : List ℕ → ℕ
  pub state : State
  pub can : CanEndOnce wanted told state mark held order world

-- In some state of the disk it may be made.
pub record MayCheckpoint (log : LogEnd) (mark : Mark) (held : Partitions) (dirty : List PageId)
    (world : World) : Type 0 where
  pub wanted : Shape
  pub told : List ℕ → ℕ
  pub state : State
  pub can : CanCheckpoint wanted told state log mark held dirty world

-- no segment from the first kept one on is there that is below both places of the mark
abbrev pub AreGone : LogEnd → Mark → World → Type 0
AreGone log mark world = (seg : ℕ) → log.first ≤ seg → seg < kept_segment mark → segment_in world seg ≡ None

-- each segment from this one up to that one begins with what it had
abbrev pub KeepsLogFrom : ℕ → ℕ → World → World → Type 0
KeepsLogFrom low high old new = (seg : ℕ) → low ≤ seg → seg ≤ high
    → (more : List ℕ) × (contents new.log seg ≡ contents old.log seg ++ more)

-- What a checkpoint leaves of the log, whether the store is sound or not: its last segment ends where the log
-- ends. Where there is a number for a segment more, each segment from this one up to the one in which the log
-- ended before begins with what it had.
pub record LeavesLog (low : ℕ) (before now : LogEnd) (old new : World) : Type 0 where
  pub ends : EndsThere now new
  pub begins : before.end.seg + 1 < 2 ^ 64 → KeepsLogFrom low before.end.seg old new

-- What a checkpoint leaves that is ended: it is in force, its pages are in their files for good, and the
-- segments that aren't needed any more are gone.
pub record IsEnded (size : ℕ) (log : LogEnd) (mark : Mark) (held : Partitions) (dirty : List PageId)
    (world : World) : Type 0 where
  pub checkpoint : in_force (image_of world) ≡ Ended mark
  pub home : AreHome size held dirty world
  pub gone : AreGone log mark world

-- the machine's state after it: it is in force and no other marker is written, and the log ends there
pub record IsStateAfter (log : LogEnd) (mark : Mark) (s : State) : Type 0 where
  pub checkpoint : s.now.checkpoint ≡ Ended mark
  pub alone : s.soon ≡ None
  pub ends : s.end ≡ (log_after log mark).end

-- The steps of a whole checkpoint were made, each of which meets its guard; at an `Err` a prefix of them.
pub record MakesWhole {T E : Type 0} (told : List ℕ → ℕ) (old new : History) (result : Result T E)
    (log : LogEnd) (mark : Mark) (rebuilt held : Partitions) (dirty : List PageId) (s : State) : Type 0 where
  pub writings : List Writing
  pub order : IsOrderOf dirty (map written_page writings)
  pub guards : CanAll told (whole_steps log mark rebuilt held writings s old.world) s old.world
  pub leaves : IsStateAfter log mark
      (states (whole_steps log mark rebuilt held writings s old.world) s old.world)
  pub makes : MakesSteps {T = T} {E = E} old new result
      (whole_steps log mark rebuilt held writings s old.world) s

-- The same in this order of the pages.
pub record MakesInOrder {T E : Type 0} (told : List ℕ → ℕ) (old new : History) (result : Result T E)
    (log : LogEnd) (mark : Mark) (rebuilt held : Partitions) (order : List PageId) (s : State) : Type 0 where
  pub writings : List Writing
  pub pages_are : map written_page writings ≡ order
  pub guards : CanAll told (whole_steps log mark rebuilt held writings s old.world) s old.world
  pub leaves : IsStateAfter log mark
      (states (whole_steps log mark rebuilt held writings s old.world) s old.world)
  pub makes : MakesSteps {T = T} {E = E} old new result
      (whole_steps log mark rebuilt held writings s old.world) s
