-- How a store that was restored is opened: its base pages, how far its log and its checkpoints may go, and which
-- faults an opening has.
use Rattle.std.specs.Prelude.{◌≡◌, ◌≤◌, ◌<◌, ◌+◌, ◌*◌, ◌^◌, ℕ, List, [], Option, Some, None, Result}
use Rattle.std.specs.Prelude.{length, OnOk, IfErr, IsErrOf}
use Rattle.pm_types.specs.declared.fault.Field.{Field}
use Rattle.pm_types.specs.declared.fault.OpenFault.{OpenFault}
use Rattle.pm_types.specs.declared.fault.OpenFault.TheVariants as opening
use Rattle.pm_types.specs.declared.fault.StoreFault.{StoreFault}
use Rattle.pm_types.specs.declared.fault.StoreFault.TheVariants.{Failed, Memory, BadPage, BadRecord}
use Rattle.pm_types.specs.declared.limits.TheConstants.{OP_PAGES}
use Rattle.pm_types.specs.declared.place.Place.{Place}
use Rattle.pm_types.specs.declared.shape.Mark.{Mark}
use Rattle.pm_types.specs.declared.shape.Shape.{Shape}
use Rattle.pm_frame.specs.Frames.{Frame}
use Rattle.pm_disk.specs.Moments.{History, AllMoments}
use Rattle.pm_disk.specs.States.{DeviceState, IsUsable, Rose}
use Rattle.pm_disk.specs.Worlds.{World}
use Rattle.pm_model.specs.Eval.{Pairs}
use Rattle.pm_records.specs.LogFiles.{contents}
use Rattle.pm_records.specs.Logs.{all_frames, after_frames, HasFrames}
use Rattle.pm_segments.specs.Ends.{LogEnd}
use Rattle.pm_marks.specs.InForce.{Checkpoint, number_in}
use Rattle.pm_core.specs.BasePages.{Partitions, no_pages, base_of}
use Rattle.pm_core.specs.Held.{in_force, pairs_in}
use Rattle.pm_core.specs.LogAlone.{image_of}
use Rattle.pm_core.specs.Starts.{CanBegin, appended}
use Rattle.pm_core.specs.States.{State}
use Rattle.pm_redo.specs.FoundMarks.{replay_at}
use Rattle.pm_redo.specs.Pictures.{files_in}
use Rattle.pm_redo.specs.Rebuilding.{IsSame}
use Rattle.pm_redo.specs.Restoring.{ComparesShape, left_state, with_end}
use Rattle.pm_engine.specs.OpenedStores.{IsRestoredStore}
use Rattle.pm_engine.specs.RunningStores.{number_of}
use Rattle.pm_engine.specs.Replays.{IsBadReplay}
use Rattle.pm_engine.specs.RunningLines.{KeepsLines}
use Rattle.pm_engine.specs.RunningStores.{ended_with}

-- the base pages of a store that was restored
abbrev pub loaded_base : Option Mark → World → Partitions
loaded_base mark world = base_of (ended_with mark) no_pages (files_in world)

-- the same, where this checkpoint was in force before
abbrev pub restored_base : Checkpoint → World → Partitions
restored_base checkpoint world = base_of (with_end checkpoint) no_pages (files_in world)

-- the records from the replay place up to where the log ended, over the rows of the base pages
abbrev pub IsBadOver : Shape → Partitions → (ℕ → List ℕ) → Place → Place → World → Place → Type 0
IsBadOver shape base log from end world at =
    IsBadReplay shape (pairs_in shape.partitions base) log from end world at

-- A store was restored, holds this map, and to its log nothing was appended since that changes a map. There are
-- numbers for the segments that the records from its replay place on may take, with a checkpoint before each,
-- up to the last one, and for these checkpoints, up to the highest; and for one checkpoint more.
pub record IsRestoredHolding (last highest : ℕ) (wanted : Shape) (told : List ℕ → ℕ) (shape : Shape)
    (pairs : Pairs) (log : LogEnd) (mark : Option Mark) (s : State) (world : World) : Type 0 where
  pub store : IsRestoredStore wanted told shape log mark s world
  pub map : s.map ≡ pairs
  pub keeps : KeepsLines shape 0 pairs [] s.first (appended s)
  pub below : log.end.seg + 1 ≤ last
  pub room : (frames : List Frame) → HasFrames all_frames (contents world.log) (replay_at mark) frames
      → after_frames (replay_at mark) frames ≡ log.end
      → (log.end.seg + (1 + (OP_PAGES + 1) * length frames) ≤ last) × (number_of mark + length frames ≤ highest)
  pub last_fits : last + 2 < 2 ^ 64
  pub number : number_of mark ≤ highest
  pub highest_fits : highest + 1 < 2 ^ 64

-- the segment in which the log ends at most once its records were applied again: one after the start's last segment,
-- and for each record from the replay place on one for each page that it may change, and one for a checkpoint before it
abbrev pub replayed_last : {wanted : Shape} {told : List ℕ → ℕ} {world : World} {shape : Shape} {pairs : Pairs}
    → CanBegin wanted told world shape pairs → ℕ
replayed_last {wanted} {told} {world} {shape} {pairs} can =
    (left_state can).at.seg + (1 + (OP_PAGES + 1) * length can.sound.holds.frames)

-- the number of its checkpoint at most then: there may be one more for each record from the replay place on
abbrev pub replayed_number : {wanted : Shape} {told : List ℕ → ℕ} {world : World} {shape : Shape} {pairs : Pairs}
    → CanBegin wanted told world shape pairs → ℕ
replayed_number {wanted} {told} {world} {shape} {pairs} can =
    number_in (in_force (image_of world)) + length can.sound.holds.frames

-- the same of an opened store, for which one more checkpoint may be made
abbrev pub opened_last : {wanted : Shape} {told : List ℕ → ℕ} {world : World} {shape : Shape} {pairs : Pairs}
    → CanBegin wanted told world shape pairs → ℕ
opened_last {wanted} {told} {world} {shape} {pairs} can = replayed_last can + 1

abbrev pub opened_number : {wanted : Shape} {told : List ℕ → ℕ} {world : World} {shape : Shape} {pairs : Pairs}
    → CanBegin wanted told world shape pairs → ℕ
opened_number {wanted} {told} {world} {shape} {pairs} can = replayed_number can + 1

-- there are numbers for these segments, and two more, and for these checkpoints
pub record HasFewNumbers {wanted : Shape} {told : List ℕ → ℕ} {world : World} {shape : Shape} {pairs : Pairs}
    (can : CanBegin wanted told world shape pairs) : Type 0 where
  pub in_log : opened_last can + 2 < 2 ^ 64
  pub in_marks : opened_number can < 2 ^ 64

-- a fault of a call on a host, or out of memory
abbrev pub IsPlainOpen : OpenFault → Type 0
IsPlainOpen (opening.Shape field) = ⊥
IsPlainOpen (opening.Store Failed) = Unit {0}
IsPlainOpen (opening.Store (Memory lack)) = Unit {0}
IsPlainOpen (opening.Store (BadPage page)) = ⊥
IsPlainOpen (opening.Store (BadRecord at)) = ⊥

-- the count of faults doesn't fall, and `Failed` comes only where it rose
pub record CountsFaults {T : Type 0} (before now : DeviceState) (result : Result T StoreFault) : Type 0 where
  pub later : before.faults ≤ now.faults
  pub failed : IsErrOf result Failed → Rose before now
  pub access : now.access ≡ before.access
  pub usable : IsUsable before → IsUsable now

-- the same of an opening
pub record CountsOpenFaults {T : Type 0} (before now : DeviceState) (result : Result T OpenFault) : Type 0 where
  pub later : before.faults ≤ now.faults
  pub failed : IsErrOf result (opening.Store Failed) → Rose before now
  pub access : now.access ≡ before.access
  pub usable : IsUsable before → IsUsable now

-- The store's shape was compared with the wanted one. A fault names the field that differs, and a record or a
-- page is bad only where none does; at `Ok` none does. Where one does nothing is changed at any moment.
pub record ComparesOpening {T : Type 0} (differs : Option Field) (old new : History)
    (result : Result T OpenFault) : Type 0 where
  pub fault : IfErr result (ComparesShape differs)
  pub alike : OnOk result (differs ≡ None)
  pub differing : (field : Field) → differs ≡ Some field → AllMoments old new (IsSame old.world)
