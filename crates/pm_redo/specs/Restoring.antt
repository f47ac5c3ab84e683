-- What a restart does before it replays the log.
--
--   the markers and, without a start marker, the log's first record say the store's shape
--   the pages of a checkpoint without its end marker are rebuilt from the log
--   the log is read from the replay place to its end, and is cut there
--   the rebuilt pages are written and forced, and the end marker is written and forced
use Rattle.std.specs.Prelude.{◌≡◌, ◌⊎◌, ◌<◌, ◌≤◌, ◌-◌, ℕ, min, List, [], length, Option, Some, None, IsSome}
use Rattle.std.specs.Prelude.{IfSome, IfErr, Result, false, OnOk}
use Rattle.std.specs.Option.{option_and_then}
use Rattle.pm_types.specs.declared.fault.Field.{Field}
use Rattle.pm_types.specs.declared.fault.OpenFault.{OpenFault}
use Rattle.pm_types.specs.declared.fault.OpenFault.TheVariants as opening
use Rattle.pm_types.specs.declared.fault.StoreFault.TheVariants.{Failed, Memory, BadPage, BadRecord}
use Rattle.pm_types.specs.declared.limits.TheConstants.{SEGMENT_BYTES_MAX}
use Rattle.pm_types.specs.declared.place.Place.{Place}
use Rattle.pm_types.specs.declared.shape.Mark.{Mark}
use Rattle.pm_types.specs.declared.shape.Shape.{Shape}
use Rattle.pm_frame.specs.Frames.{Frame}
use Rattle.pm_disk.specs.Images.{Image, LeavesAll, NothingPending}
use Rattle.pm_disk.specs.Moments.{History, AllMoments}
use Rattle.pm_disk.specs.Worlds.{World, segment_in}
use Rattle.pm_model.specs.Eval.{Pairs}
use Rattle.pm_records.specs.FirstRecords.{is_restart}
use Rattle.pm_records.specs.LogFiles.{Uncut, Ready, contents}
use Rattle.pm_records.specs.LogSteps.{cut_steps, world_after}
use Rattle.pm_records.specs.Logs.{place, all_frames, record_in}
use Rattle.pm_records.specs.Records.{Record, Logical, Snapshot, Delta, CpBegin, Restart, Seal}
use Rattle.pm_segments.specs.Ends.{LogEnd, fresh_log, EndsThere}
use Rattle.pm_marks.specs.InForce.{Checkpoint, NoStart, Started, Ended, replay_of}
use Rattle.pm_marks.specs.Slots.{IsMark}
use Rattle.pm_core.specs.BasePages.{Partitions, no_pages, pages_of, laid_over, base_of, RebuiltAre}
use Rattle.pm_core.specs.Calls.{ChangesDisk, MakesPrefix}
use Rattle.pm_core.specs.Held.{in_force}
use Rattle.pm_core.specs.LogAlone.{image_of}
use Rattle.pm_core.specs.Machine.{DiskStep, CanAll, states, worlds}
use Rattle.pm_core.specs.PageLaws.{Grows}
use Rattle.pm_core.specs.Sound.{SoundImage, IsTrueImage}
use Rattle.pm_core.specs.Stands.{HasShape, Stands}
use Rattle.pm_core.specs.Starts.{CanBegin, start_state}
use Rattle.pm_core.specs.States.{State}
use Rattle.pm_redo.specs.declared.opening.Base.{Base}
use Rattle.pm_redo.specs.Ending.{BeginsSteps}
use Rattle.pm_redo.specs.FoundMarks.{replay_at}
use Rattle.pm_redo.specs.LogEnds.{LogEndsAt}
use Rattle.pm_redo.specs.Pictures.{files_in, AreOfFiles}
use Rattle.pm_redo.specs.Rebuilding.{CanNotRebuildFor, IsSame}

-- ---- the shape

-- the shape that a log's first record holds, none where it is no RESTART
abbrev pub shape_of : Option Record → Option Shape
shape_of None = None
shape_of (Some (Logical op cache key value)) = None
shape_of (Some (Snapshot page bytes)) = None
shape_of (Some (Delta page ranges)) = None
shape_of (Some (CpBegin number replay)) = None
shape_of (Some (Restart shape)) = Some shape
shape_of (Some Seal) = None

-- the frame with which a log begins
abbrev pub first_frame : (ℕ → List ℕ) → Option Frame
first_frame log = all_frames.frame_at 1 0 (log 1)

-- the store's shape: the start marker's, or that of the log's first record; an empty store has none
abbrev pub found_shape : Checkpoint → (ℕ → List ℕ) → Option Shape
found_shape NoStart log = shape_of (option_and_then record_in (first_frame log))
found_shape (Started mark) log = Some mark.shape
found_shape (Ended mark) log = Some mark.shape

-- the start marker
abbrev pub mark_of : Checkpoint → Option Mark
mark_of NoStart = None
mark_of (Started mark) = Some mark
mark_of (Ended mark) = Some mark

-- the lowest segment that a start marker names
abbrev pub first_kept : Mark → ℕ
first_kept mark = min mark.from.seg (min mark.begin.seg mark.replay.seg)

-- the first segment that is needed
abbrev pub first_of : Checkpoint → ℕ
first_of NoStart = 1
first_of (Started mark) = first_kept mark
first_of (Ended mark) = first_kept mark

-- ---- faults

-- without a start marker the log begins with a record that is no RESTART
pub record IsBadFirst (log : ℕ → List ℕ) (at : Place) : Type 0 where
  pub there : at ≡ place 1 0
  pub frame : Frame
  pub stands : first_frame log ≡ Some frame
  pub no_restart : is_restart (record_in frame) ≡ false

abbrev pub IsBadFirstFor : Checkpoint → (ℕ → List ℕ) → Place → Type 0
IsBadFirstFor NoStart log at = IsBadFirst log at
IsBadFirstFor (Started mark) log at = ⊥
IsBadFirstFor (Ended mark) log at = ⊥

-- the replay place is past its segment's end
pub record IsPastEnd (log : ℕ → List ℕ) (replay at : Place) : Type 0 where
  pub there : at ≡ replay
  pub short : length (log replay.seg) < replay.off

-- why a record is bad
abbrev pub IsBadRestore : Checkpoint → (ℕ → List ℕ) → Place → Type 0
IsBadRestore checkpoint log at =
    IsBadFirstFor checkpoint log at
    ⊎ (CanNotRebuildFor checkpoint log at ⊎ IsPastEnd log (replay_of checkpoint) at)

-- after this fault the store is as it was
abbrev pub LeavesStore : World → World → OpenFault → Type 0
LeavesStore old now (opening.Shape field) = now ≡ old
LeavesStore old now (opening.Store Failed) = Unit {0}
LeavesStore old now (opening.Store (Memory lack)) = Unit {0}
LeavesStore old now (opening.Store (BadPage page)) = now ≡ old
LeavesStore old now (opening.Store (BadRecord at)) = now ≡ old

-- the checkpoint with its end marker
abbrev pub with_end : Checkpoint → Checkpoint
with_end NoStart = NoStart
with_end (Started mark) = Ended mark
with_end (Ended mark) = Ended mark

-- where no checkpoint is without its end marker the partitions' files are as they were
abbrev pub KeepsPages : Checkpoint → World → World → Type 0
KeepsPages NoStart old now = now.pages ≡ old.pages
KeepsPages (Started mark) old now = Unit {0}
KeepsPages (Ended mark) old now = now.pages ≡ old.pages

-- The base pages stand in the partitions' files, whether the store is sound or not: each page that the log
-- rebuilds for a checkpoint without its end marker, and each other one that stood there.
pub record KeepsBase (checkpoint : Checkpoint) (old now : World) : Type 0 where
  pub rebuilt : Partitions
  pub rebuilt_are : RebuiltAre checkpoint (contents old.log) rebuilt
  pub stays : (part index : ℕ) (page : List ℕ)
      → base_of checkpoint rebuilt (files_in old) part index ≡ Some page
      → base_of (with_end checkpoint) no_pages (files_in now) part index ≡ Some page
  pub files : KeepsPages checkpoint old now

-- of the log nothing but the cut was done at its end, where it ends when it is read from the replay place
abbrev pub OnlyCutsLog : Checkpoint → World → World → Type 0
OnlyCutsLog checkpoint old now = (end : Place) → LogEndsAt (contents old.log) (replay_of checkpoint) end
    → now.log ≡ (world_after cut_steps end old).log

-- Nothing but the store's files is changed. At `Ok` the base pages stand in them, and of the log nothing but the
-- cut at its end was done.
pub record RestoresFiles {T E : Type 0} (checkpoint : Checkpoint) (old new : History) (result : Result T E)
    : Type 0 where
  pub disk : AllMoments old new (ChangesDisk old.world)
  pub base : OnOk result (KeepsBase checkpoint old.world new.world)
  pub log : OnOk result (OnlyCutsLog checkpoint old.world new.world)

-- Nothing but the store's files is changed, after a fault that names something nothing at all, and where the
-- shape differs nothing at any moment. At `Ok` the base pages stand in the files, and of the log nothing but the
-- cut at its end was done.
pub record OnlyRestores {T : Type 0} (differs : Option Field) (old new : History) (result : Result T OpenFault)
    : Type 0 where
  pub disk : AllMoments old new (ChangesDisk old.world)
  pub base : OnOk result (KeepsBase (in_force (image_of old.world)) old.world new.world)
  pub log : OnOk result (OnlyCutsLog (in_force (image_of old.world)) old.world new.world)
  pub untouched : IfErr result (LeavesStore old.world new.world)
  pub differing : (field : Field) → differs ≡ Some field → AllMoments old new (IsSame old.world)

-- what a fault says of the shape: it names the field that differs, and a record or a page is bad only where none does
abbrev pub ComparesShape : Option Field → OpenFault → Type 0
ComparesShape differs (opening.Shape field) = differs ≡ Some field
ComparesShape differs (opening.Store Failed) = Unit {0}
ComparesShape differs (opening.Store (Memory lack)) = Unit {0}
ComparesShape differs (opening.Store (BadPage page)) = differs ≡ None
ComparesShape differs (opening.Store (BadRecord at)) = differs ≡ None

-- ---- the log

-- how many bytes a segment may have
abbrev pub segment_bytes_of : Checkpoint → ℕ → ℕ
segment_bytes_of NoStart wanted = wanted
segment_bytes_of (Started mark) wanted = mark.shape.segment_bytes
segment_bytes_of (Ended mark) wanted = mark.shape.segment_bytes

-- why a record is bad, where the shape was found
abbrev pub IsBadLog : Checkpoint → (ℕ → List ℕ) → Place → Type 0
IsBadLog checkpoint log at = CanNotRebuildFor checkpoint log at ⊎ IsPastEnd log (replay_of checkpoint) at

-- the log that ends there, with this size of its segments
pub record CutsLog (log : ℕ → List ℕ) (replay : Place) (segment_bytes : ℕ) (cut : LogEnd) : Type 0 where
  pub ends : LogEndsAt log replay cut.end
  pub is : cut ≡ fresh_log cut.first cut.end segment_bytes

-- The lowest segment that is there, without a gap up to the one from which on segments are needed: each
-- between the two is there, and the one right below it isn't. The first segment of all is 1.
pub record IsLowestKept (world : World) (needed lowest : ℕ) : Type 0 where
  pub below : lowest ≤ needed
  pub from_one : 1 ≤ needed → 1 ≤ lowest
  pub there : (seg : ℕ) → lowest ≤ seg → seg < needed → IsSome (segment_in world seg)
  pub gone : 1 < lowest → segment_in world (lowest - 1) ≡ None

-- The segments of a log that is needed from this one on: the last one ends where the log ends, and the first
-- one that counts as kept is the lowest that is there, so that none is left that no checkpoint would remove.
pub record HasSegments (needed : ℕ) (world : World) (log : LogEnd) : Type 0 where
  pub ends : EndsThere log world
  pub lowest : IsLowestKept world needed log.first

-- Whatever its files hold: the log ends in a segment of a number that a segment has, and a segment may have as many
-- bytes as one of a store.
pub record IsCutLog (log : LogEnd) : Type 0 where
  pub from_one : 1 ≤ log.end.seg
  pub size_to : log.segment_bytes ≤ SEGMENT_BYTES_MAX

-- ---- steps of the machine

-- The disk is as this state says, and nothing was done since the store was left: this checkpoint is in
-- force, and the log ends where it ends when it is read from the replay place.
pub record IsLeft (wanted : Shape) (told : List ℕ → ℕ) (checkpoint : Checkpoint) (s : State) (world : World)
    : Type 0 where
  pub stands : Stands wanted told s world
  pub now : s.now.checkpoint ≡ checkpoint
  pub alone : s.soon ≡ None
  pub rebuilt : RebuiltAre checkpoint (contents world.log) s.now.rebuilt
  pub shaped : HasShape s.shape checkpoint
  pub uncut : s.tail ≡ Uncut
  pub ends : LogEndsAt (contents world.log) (replay_of checkpoint) s.at
  pub at_end : s.end ≡ s.at
  pub nothing_pending : s.pending ≡ []
  pub files : s.files ≡ pages_of s.shape.page_size (files_in world)

-- The state after a restart's steps: the tail is cut and forced, the checkpoint has its end marker, if there
-- is a start marker, and nothing else has changed.
pub record IsRestored (checkpoint : Checkpoint) (s t : State) : Type 0 where
  pub now : t.now ≡ record { checkpoint = with_end checkpoint; rebuilt = no_pages }
  pub alone : t.soon ≡ None
  pub ready : t.tail ≡ Ready
  pub at : t.at ≡ s.at
  pub at_end : t.end ≡ s.at
  pub nothing_pending : t.pending ≡ []
  pub shape : t.shape ≡ s.shape
  -- its pages are those of the partitions' files
  pub files : AreOfFiles t.shape.page_size t.files
  pub map : t.map ≡ s.map
  pub order : t.order ≡ s.order

-- without a start marker the files of the markers are as they were
abbrev pub KeepsMarks : Checkpoint → World → World → Type 0
KeepsMarks NoStart old now = (now.starts ≡ old.starts) × (now.ends ≡ old.ends)
KeepsMarks (Started mark) old now = Unit {0}
KeepsMarks (Ended mark) old now = Unit {0}

-- All steps of a restart were made, each of which meets its guard.
pub record Restores (told : List ℕ → ℕ) (checkpoint : Checkpoint) (s : State) (old new : History)
    : Type 0 where
  pub steps : List DiskStep
  pub can : CanAll told steps s old.world
  pub moments : AllMoments old new (MakesPrefix steps s old.world)
  pub is : new.world ≡ worlds steps s old.world
  pub restored : IsRestored checkpoint s (states steps s old.world)
  pub marks : KeepsMarks checkpoint old.world new.world
  -- of the log nothing but the cut was done
  pub log : new.world.log ≡ (world_after cut_steps s.at old.world).log
  -- the partitions' files hold the base pages, and others only where those have a meta page
  pub pages : (part : ℕ) → Grows (laid_over s.now.rebuilt s.files part)
      (pages_of s.shape.page_size (files_in new.world) part)

-- ---- the whole

-- the state of a store that may be restored: it is sound and nothing is pending
abbrev pub left_state : {wanted : Shape} {told : List ℕ → ℕ} {world : World} {shape : Shape} {pairs : Pairs}
    → CanBegin wanted told world shape pairs → State
left_state {wanted} {told} {world} {shape} {pairs} can = start_state wanted world shape pairs can.sound

-- whatever a crash leaves, as long as no sum is right by chance, is sound and holds this map
abbrev pub CrashHolds : Shape → Shape → Pairs → World → Type 0
CrashHolds wanted shape pairs world =
    (image : Image) → LeavesAll world image → IsTrueImage world image → SoundImage wanted image shape pairs

-- What was found: the store's shape, the start marker, from where the log is to be replayed, where it ends, and
-- the log that ends there, as it does in its files now. Its first segment is the lowest that is there.
pub record IsBase (checkpoint : Checkpoint) (wanted : Shape) (log : ℕ → List ℕ) (now : World) (base : Base)
    : Type 0 where
  pub shape : base.shape ≡ found_shape checkpoint log
  pub mark : base.mark ≡ mark_of checkpoint
  pub replay : base.replay ≡ replay_of checkpoint
  pub ends : LogEndsAt log base.replay base.log_end
  pub cut : base.log
      ≡ fresh_log base.log.first base.log_end (segment_bytes_of checkpoint wanted.segment_bytes)
  pub there : EndsThere base.log now
  pub lowest : IsLowestKept now (first_of checkpoint) base.log.first

-- Whatever the host tells: the start marker says what a marker may, with the wanted shape, and the log ends where
-- it was cut.
pub record IsFit (wanted : Shape) (base : Base) : Type 0 where
  pub marked : IfSome base.mark (λ mark. IsMark mark × (mark.shape ≡ wanted))
  pub replay : base.replay ≡ replay_at base.mark
  pub ends : base.log_end ≡ base.log.end
  pub cut : IsCutLog base.log

-- At each moment a prefix of steps that meet their guards was made, and whatever a crash leaves holds what
-- the store held.
pub record RestoresWithin (wanted : Shape) (told : List ℕ → ℕ) (shape : Shape) (pairs : Pairs) (s : State)
    (old new : History) : Type 0 where
  pub begun : BeginsSteps told s old new
  pub crash : AllMoments old new (CrashHolds wanted shape pairs)

-- All steps were made, the checkpoint has its end marker, nothing is pending, and the store holds what it held.
pub record RestoresAll (wanted : Shape) (told : List ℕ → ℕ) (checkpoint : Checkpoint) (shape : Shape)
    (pairs : Pairs) (s : State) (old new : History) : Type 0 where
  pub made : Restores told checkpoint s old new
  pub stands : Stands wanted told (states made.steps s old.world) new.world
  pub ended : in_force (image_of new.world) ≡ with_end checkpoint
  pub quiet : NothingPending new.world
  -- the base pages are what they were, but for pages that don't count
  pub pages : (rebuilt : Partitions) → RebuiltAre checkpoint (contents old.world.log) rebuilt → (part : ℕ)
      → Grows (base_of checkpoint rebuilt (files_in old.world) part)
      (base_of (with_end checkpoint) no_pages (files_in new.world) part)
