-- How a store over page frames is opened: it is restored, a RESTART is appended, and the records that its log had
-- before it are applied again. No page is read but those that these records need.
use Rattle.std.specs.Prelude.{◌≡◌, ◌⊎◌, ◌≤◌, ◌<◌, ◌^◌, ℕ, [], List, Bool, IsTrue, true, length, All, Option, Some, None}
use Rattle.std.specs.Prelude.{Result, IfErr, IfOk, IsErrOf}
use Rattle.pm_types.specs.declared.fault.OpenFault.{OpenFault}
use Rattle.pm_types.specs.declared.fault.OpenFault.TheVariants as opening
use Rattle.pm_types.specs.declared.fault.StoreFault.{StoreFault}
use Rattle.pm_types.specs.declared.fault.StoreFault.TheVariants.{Failed, Memory, BadPage, BadRecord}
use Rattle.pm_types.specs.declared.page_id.PageId.{PageId}
use Rattle.pm_types.specs.declared.place.Place.{Place}
use Rattle.pm_types.specs.declared.shape.Mark.{Mark}
use Rattle.pm_types.specs.declared.shape.Shape.{Shape}
use Rattle.pm_config.specs.declared.config.Config.{Config}
use Rattle.pm_frame.specs.Frames.{Frame}
use Rattle.pm_disk.specs.Worlds.{World}
use Rattle.pm_model.specs.Eval.{Pairs}
use Rattle.pm_records.specs.FirstRecords.{restart_frame}
use Rattle.pm_records.specs.LogFiles.{contents}
use Rattle.pm_records.specs.Logs.{all_frames, record_in, after_frames, HasFrames}
use Rattle.pm_segments.specs.Appends.{grown}
use Rattle.pm_segments.specs.Ends.{LogEnd, EndsThere}
use Rattle.pm_marks.specs.InForce.{Checkpoint, NoStart, Started, Ended, replay_of}
use Rattle.pm_ckpt.specs.Marked.{Kept}
use Rattle.pm_core.specs.BasePages.{Partitions, page_in_file}
use Rattle.pm_core.specs.Held.{AllWellFormed}
use Rattle.pm_redo.specs.LogEnds.{LogEndsAt}
use Rattle.pm_redo.specs.Pictures.{files_in}
use Rattle.pm_redo.specs.Restoring.{IsBadRestore, KeepsBase}
use Rattle.pm_engine.specs.Engines.{FrameRunning, HasDoneLines, counted_in, map_in}
use Rattle.pm_engine.specs.FrameBatches.{EndsAtReplayIn}
use Rattle.pm_engine.specs.FrameStores.{FrameStoreView, pages_in_frames, IsDirtyPage, HasCleanPages}
use Rattle.pm_engine.specs.LogCounts.{CountsAtLeast, log_bytes}
use Rattle.pm_engine.specs.MetPages.{AllowsRecord, MeetsBadPage}
use Rattle.pm_engine.specs.Replays.{IsRefusedReplay, LogLeadsTo}
use Rattle.pm_engine.specs.RunningStores.{number_of}
use Rattle.pm_engine.specs.Openings.{IsBadOver, loaded_base, restored_base}
use Rattle.pm_engine.specs.RunningStores.{HasSegmentsFor, ended_with}

-- An engine of this configuration's shape, with as many frames, that is open and has run no line.
pub record IsFreshIn (config : Config) (engine : FrameRunning) : Type 0 where
  pub shape_is : engine.store.shape ≡ config.shape
  pub frames : config.frames ≡ length engine.store.locks.ranges
  pub order : engine.order ≡ []
  pub is_open : engine.store.is_open ≡ true

-- over this disk a round may begin: the log ends where the engine has it, and what is Clean is as the files have it
pub record IsReadyOver (engine : FrameRunning) (world : World) : Type 0 where
  pub ends : EndsThere engine.log world
  pub clean : HasCleanPages engine.store world

-- each page that the store may have is as the base pages have it that this start marker leaves in the files
abbrev pub HasBasePages : Shape → Option Mark → FrameStoreView → World → Type 0
HasBasePages shape mark store world = (part index : ℕ) → part < shape.partitions → index < 2 ^ 32
    → pages_in_frames store world part index ≡ loaded_base mark world part index

-- So many page frames of an open store, none of which has a page, and what is kept for checkpoints of all of them.
pub record AreEmptyFrames (shape : Shape) (mark : Option Mark) (frames : ℕ) (store : FrameStoreView) (ckpt : Kept)
    : Type 0 where
  pub shape_is : store.shape ≡ shape
  pub many : length store.locks.ranges ≡ frames
  pub is_open : store.is_open ≡ true
  pub sent : store.stripe.outbox ≡ []
  pub pages : (world : World) → HasBasePages shape mark store world
  pub none_dirty : (id : PageId) → IsDirtyPage store id → ⊥
  pub clean : (world : World) → HasCleanPages store world
  pub kept : ckpt ≡ record { shape = shape; mark = mark; room = Some frames }

-- An engine was made over page frames without a page, and the RESTART appended to this log, which had a number for a
-- segment more. Its pages are the base pages that this start marker leaves in the files.
pub record IsStartedEngine (config : Config) (mark : Option Mark) (log : LogEnd) (engine : FrameRunning)
    : Type 0 where
  pub fresh : IsFreshIn config engine
  pub log_is : engine.log ≡ grown log (restart_frame config.shape)
  pub numbered : HasSegmentsFor log 1
  pub mark_is : engine.ckpt.mark ≡ mark
  pub pages : (world : World) → HasBasePages config.shape mark engine.store world
  pub none_dirty : (id : PageId) → IsDirtyPage engine.store id → ⊥
  pub clean : (world : World) → HasCleanPages engine.store world

-- A sound store was opened: the engine has its shape and its map, and runs, with no line done. Its log ends in a
-- segment up to the last one, and the checkpoint in force has at most the highest number.
pub record OpensRunningIn (last highest : ℕ) (wanted : Shape) (told : List ℕ → ℕ) (shape : Shape) (pairs : Pairs)
    (engine : FrameRunning) (world : World) : Type 0 where
  pub shape_is : engine.store.shape ≡ shape
  pub map : map_in engine world ≡ pairs
  pub runs : HasDoneLines wanted told 0 pairs [] engine world
  pub segment : engine.log.end.seg ≤ last
  pub number : number_of engine.ckpt.mark ≤ highest

-- Of the log that stood between these places all bytes are counted, or the log ends at the replay place of a checkpoint
-- that was made since.
abbrev pub CountsLog : (ℕ → List ℕ) → Place → Place → FrameRunning → Type 0
CountsLog log from end engine = EndsAtReplayIn engine ⊎ CountsAtLeast (counted_in engine) (log_bytes log from end)

-- Without a start marker no partition's file has its first page. The base pages are none then, but the first checkpoint
-- lets the files' pages be read.
abbrev pub HasNoStrayPages : Shape → Checkpoint → World → Type 0
HasNoStrayPages shape NoStart world = (part : ℕ) → part < shape.partitions
    → page_in_file shape.page_size (files_in world part) 0 ≡ None
HasNoStrayPages shape (Started mark) world = Unit {0}
HasNoStrayPages shape (Ended mark) world = Unit {0}

-- the records that stand from the replay place up to the log's end
pub record HasRecords (checkpoint : Checkpoint) (old : World) (frames : List Frame) : Type 0 where
  pub end : Place
  pub ends : LogEndsAt (contents old.log) (replay_of checkpoint) end
  pub stand : HasFrames all_frames (contents old.log) (replay_of checkpoint) frames
  pub to : after_frames (replay_of checkpoint) frames ≡ end

-- Only the partitions of these records' keys may have changed since the store was restored.
abbrev pub AllowsRecords : (ℕ → Bool) → Shape → List Frame → Type 0
AllowsRecords may_change shape frames = All (λ frame. AllowsRecord may_change shape (record_in frame)) frames

-- each base page that a store of this shape may have is there with its bytes, but of changed partitions
abbrev pub KeepsBasePagesBut : Shape → (ℕ → Bool) → Partitions → Partitions → Type 0
KeepsBasePagesBut shape may_change base new = (part index : ℕ) (bytes : List ℕ) → part < shape.partitions → index < 2 ^ 32
    → base part index ≡ Some bytes → (new part index ≡ Some bytes) ⊎ IsTrue (may_change part)

-- What is said of any store that is opened once it was restored, with these base pages, where these frames stand from the
-- replay place up to the log's end: which partitions change, and which page is found bad. A record that is refused stands
-- among them and can be, or none stands there.
pub record OpensOverAny (tells : Type 0) (shape : Shape) (from end : Place) (frames : List Frame) (base : Partitions)
    (old new : World) (result : Result FrameRunning StoreFault) : Type 0 where
  pub pages : (may_change : ℕ → Bool) → AllowsRecords may_change shape frames
      → IfOk result (λ engine. KeepsBasePagesBut shape may_change base (pages_in_frames engine.store new))
  pub meets : (may_change : ℕ → Bool) → AllowsRecords may_change shape frames → (id : PageId)
      → IsErrOf result (BadPage id) → MeetsBadPage tells may_change shape base id
  pub refuses : (at : Place) → IsErrOf result (BadRecord at) → IsRefusedReplay (contents old.log) from end new at

-- the base pages of a store that was restored are well formed, and its files have no others that may be read
pub record HasGoodBase (shape : Shape) (checkpoint : Checkpoint) (world : World) : Type 0 where
  pub well_formed : AllWellFormed shape (restored_base checkpoint world)
  pub none_stray : HasNoStrayPages shape checkpoint world

-- The base pages that the store had once it was restored aren't well formed, or it has no start marker and its files
-- have pages. A page that couldn't be used has this name: a record that was applied again met it, and of the base pages
-- only those of such records' partitions may have changed before.
pub record IsBadOpeningPage (tells : Type 0) (shape : Shape) (checkpoint : Checkpoint) (old : World) (id : PageId)
    : Type 0 where
  pub mid : World
  pub keeps : KeepsBase checkpoint old mid
  pub bad : HasGoodBase shape checkpoint mid → ⊥
  pub frames : List Frame
  pub records : HasRecords checkpoint old frames
  pub meets : (may_change : ℕ → Bool) → AllowsRecords may_change shape frames
      → MeetsBadPage tells may_change shape (restored_base checkpoint mid) id

-- A record is bad where the store can't be restored; or where it can't be replayed from its replay place to the log's
-- end: it is in no grammar, or is a put that meets a full partition, or none stands at its place. Where the base pages
-- that the store had once it was restored are well formed, and its files have no others that may be read, it can't be
-- applied to the map of the records before it over theirs.
abbrev pub IsBadOpeningIn : Shape → Checkpoint → World → World → Place → Type 0
IsBadOpeningIn shape checkpoint old new at = IsBadRestore checkpoint (contents old.log) at
    ⊎ ((end : Place) × LogEndsAt (contents old.log) (replay_of checkpoint) end
    × IsRefusedReplay (contents old.log) (replay_of checkpoint) end new at
    × (mid : World) × KeepsBase checkpoint old mid
    × (HasGoodBase shape checkpoint mid
    → IsBadOver shape (restored_base checkpoint mid) (contents old.log) (replay_of checkpoint) end new at))

-- why a fault came; a shape that differs is found before anything is changed
abbrev pub HasOpenCauseIn : Type 0 → Shape → Checkpoint → World → World → OpenFault → Type 0
HasOpenCauseIn tells shape checkpoint old new (opening.Shape field) = new ≡ old
HasOpenCauseIn tells shape checkpoint old new (opening.Store Failed) = Unit {0}
HasOpenCauseIn tells shape checkpoint old new (opening.Store (Memory lack)) = Unit {0}
HasOpenCauseIn tells shape checkpoint old new (opening.Store (BadPage id)) =
    IsBadOpeningPage tells shape checkpoint old id
HasOpenCauseIn tells shape checkpoint old new (opening.Store (BadRecord at)) =
    IsBadOpeningIn shape checkpoint old new at

-- A store was opened: of the base pages that it had once it was restored only those of its records' partitions may have
-- changed.
pub record OpensOverBase (shape : Shape) (checkpoint : Checkpoint) (old new : World) (engine : FrameRunning)
    : Type 0 where
  pub mid : World
  pub keeps : KeepsBase checkpoint old mid
  pub frames : List Frame
  pub records : HasRecords checkpoint old frames
  pub pages : (may_change : ℕ → Bool) → AllowsRecords may_change shape frames
      → KeepsBasePagesBut shape may_change (restored_base checkpoint mid) (pages_in_frames engine.store new)

-- An opening says why it failed, or of which base pages it is known that they are as they were.
pub record LeavesBase (tells : Type 0) (shape : Shape) (checkpoint : Checkpoint) (old new : World)
    (result : Result FrameRunning OpenFault) : Type 0 where
  pub bad : IfErr result (HasOpenCauseIn tells shape checkpoint old new)
  pub kept : IfOk result (OpensOverBase shape checkpoint old new)

-- What is said of any store that is opened once it was restored, with this start marker and this log, sound or not. Where
-- its base pages are well formed, and its files have no others that may be read, no page is bad, and a record only where it
-- can't be applied to the map of the ones before it.
pub record OpensRestored (tells : Type 0) (shape : Shape) (mark : Option Mark) (from end : Place) (log : LogEnd)
    (old new : World) (result : Result FrameRunning StoreFault) : Type 0 where
  pub bad_page : (id : PageId) → IsErrOf result (BadPage id) → AllWellFormed shape (loaded_base mark old)
      → HasNoStrayPages shape (ended_with mark) old → ⊥
  pub bad_record : (at : Place) → IsErrOf result (BadRecord at) → AllWellFormed shape (loaded_base mark old)
      → HasNoStrayPages shape (ended_with mark) old
      → IsBadOver shape (loaded_base mark old) (contents old.log) from end new at
  pub over_any : (leads : LogLeadsTo from end log old)
      → OpensOverAny tells shape from end leads.frames (loaded_base mark old) old new result
