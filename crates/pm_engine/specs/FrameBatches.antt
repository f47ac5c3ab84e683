-- What calls leave of an engine over page frames, where they run a batch of lines and make checkpoints.
use Rattle.std.specs.Prelude.{◌≡◌, ◌≤◌, ◌<◌, ◌+◌, ◌*◌, ◌^◌, ◌↔◌, ◌||◌, nat_lt, ℕ, List, [], ◌++◌, length, take}
use Rattle.std.specs.Prelude.{◌⊎◌, Bool, true, false, Some, Result, Ok, Err, IfOk, IfErr, OnOk, IsErrOf, All, slice_get}
use Rattle.pm_types.specs.declared.fault.PageFault.{PageFault}
use Rattle.pm_types.specs.declared.fault.StoreFault.{StoreFault}
use Rattle.pm_types.specs.declared.fault.StoreFault.TheVariants.{Failed, Memory, BadPage, BadRecord}
use Rattle.pm_types.specs.declared.fault.Lack.TheVariants.{Bytes, Frames}
use Rattle.pm_types.specs.declared.limits.TheConstants.{OP_PAGES}
use Rattle.pm_types.specs.declared.page_id.PageId.{PageId}
use Rattle.pm_types.specs.declared.place.Place.{Place}
use Rattle.pm_types.specs.declared.shape.Mark.{Mark}
use Rattle.pm_types.specs.declared.shape.Shape.{Shape}
use Rattle.pm_types.specs.Faults.{store_fault_of}
use Rattle.pm_config.specs.declared.config.Config.{Config}
use Rattle.pm_disk.specs.Moments.{History, AllMoments}
use Rattle.pm_disk.specs.States.{DeviceState, IsLaterState, Rose}
use Rattle.pm_disk.specs.Worlds.{World}
use Rattle.pm_model.specs.declared.line.Cmd.TheVariants.{Put, Get, Remove, Scan, Checkpoint}
use Rattle.pm_model.specs.declared.line.Line.{Line}
use Rattle.pm_model.specs.declared.line.Line.TheVariants.{Good, Bad, Long}
use Rattle.pm_model.specs.Eval.{Pairs, accepted}
use Rattle.pm_model.specs.ReplyLists.{ReplyList}
use Rattle.pm_segments.specs.Ends.{EndsThere}
use Rattle.pm_locks.specs.Sight.{Sight}
use Rattle.pm_locks.specs.Views.{known_at}
use Rattle.pm_core.specs.Calls.{ChangesDisk}
use Rattle.pm_engine.specs.declared.frame_lines.Stop.TheVariants.{Faulted}
use Rattle.pm_engine.specs.declared.frame_rounds.RoundEnd.{RoundEnd}
use Rattle.pm_engine.specs.declared.frame_scans.ScanStop.{ScanStop}
use Rattle.pm_engine.specs.declared.frame_scans.ScanStop.TheVariants as scan
use Rattle.pm_engine.specs.FrameDirty.{dirty_names}
use Rattle.pm_engine.specs.Engines.{FrameRunning, HasDoneLines, HasLastingLinesIn, AllLastIn, IsSameEngine, counted_in, map_in}
use Rattle.pm_engine.specs.FrameHosts.{ChangesNoWorld, may_go_on}
use Rattle.pm_engine.specs.FrameRounds.{EvaluatesLines}
use Rattle.pm_engine.specs.FrameStores.{FrameStoreView, pages_in_frames, IsDirtyPage, HasCleanPages}
use Rattle.pm_engine.specs.LogCounts.{idle_bytes}
use Rattle.pm_engine.specs.MetPages.{AllowsLine, KeepsOrMeets}
use Rattle.pm_engine.specs.Batches.{StaysOpen, checkpoints_in, asked_last}
use Rattle.pm_engine.specs.RunningStores.{number_of}
use Rattle.pm_engine.specs.RunningLines.{CrashHoldsLines}
use Rattle.pm_engine.specs.RunningStores.{HasSegmentsFor}

-- more than so many bytes of log are counted, or more than this percentage of the frames are Dirty
abbrev pub is_due_past : ℕ → FrameRunning → Config → Bool
is_due_past most engine config =
    nat_lt most (counted_in engine)
    || nat_lt (config.dirty_percent * config.frames) (100 * length (dirty_names engine.store))

-- the same of as many bytes as may stand between two checkpoints
abbrev pub is_due_in : FrameRunning → Config → Bool
is_due_in engine config = is_due_past config.checkpoint_bytes engine config

-- the same of as many as a run that ends, or an opening, may leave
abbrev pub is_due_idle : FrameRunning → Config → Bool
is_due_idle engine config = is_due_past (idle_bytes config) engine config

-- All that a seat knows of its frames is as it was, but for which words it met.
pub record LooksOnce (old new : Sight) : Type 0 where
  pub seat : new ≡ record old { view = record old.view { words = new.view.words; met = new.view.met } }
  pub words : (f : ℕ) → known_at new.view f ≡ known_at old.view f

-- the same of a store's seat; all else is as it was, but for what is remembered of how many frames are Dirty
pub record LooksAtFrames (old new : FrameStoreView) : Type 0 where
  pub store : new ≡ record old { seat = new.seat; dirty = new.dirty }
  pub looks : LooksOnce old.seat new.seat

-- the same of an engine's store, and all else is as it was
pub record LooksAtEngine (old new : FrameRunning) : Type 0 where
  pub engine : new ≡ record old { store = new.store }
  pub frames : LooksAtFrames old.store new.store

-- the log ends at the replay place of the start marker in force: no record has to be applied again
pub record EndsAtReplayIn (engine : FrameRunning) : Type 0 where
  pub mark : Mark
  pub is : engine.ckpt.mark ≡ Some mark
  pub ends : engine.log.end ≡ mark.replay

-- there are numbers for so many segments and checkpoints more
pub record HasNumbersIn (engine : FrameRunning) (segments checkpoints : ℕ) : Type 0 where
  pub in_log : HasSegmentsFor engine.log segments
  pub in_marks : number_of engine.ckpt.mark + checkpoints < 2 ^ 64

-- At most so many segments were begun, and so many checkpoints made. Where there are numbers for these, the number of
-- the start marker doesn't fall.
pub record TakesNumbersIn (before now : FrameRunning) (segments checkpoints : ℕ) : Type 0 where
  pub in_log : now.log.end.seg ≤ before.log.end.seg + segments
  pub in_marks : number_of now.ckpt.mark ≤ number_of before.ckpt.mark + checkpoints
  pub risen : number_of before.ckpt.mark + checkpoints < 2 ^ 64
      → number_of before.ckpt.mark ≤ number_of now.ckpt.mark

-- Each line that asked for a checkpoint had one made, where there are numbers for as many as may have been, `most`.
-- Where the last line did, the log ends at the replay place.
pub record MakesAskedIn (before now : FrameRunning) (lines : List Line) (most : ℕ) : Type 0 where
  pub made : number_of before.ckpt.mark + most < 2 ^ 64
      → number_of before.ckpt.mark + checkpoints_in lines ≤ number_of now.ckpt.mark
  pub last : (was : Bool) → (was ≡ true → EndsAtReplayIn before) → asked_last was lines ≡ true → EndsAtReplayIn now

-- The engine's store has done some lines over the disk, and there are numbers for so many segments and checkpoints
-- more.
pub record MayGoOn (engine : FrameRunning) (world : World) (segments checkpoints : ℕ) : Type 0 where
  pub wanted : Shape
  pub told : List ℕ → ℕ
  pub from : ℕ
  pub start : Pairs
  pub lines : List Line
  pub has : HasDoneLines wanted told from start lines engine world
  pub numbers : HasNumbersIn engine segments checkpoints

-- An engine that is as it was but for what it knows of its frames: no page of it changed, and at each moment the world
-- was the one then.
pub record KeepsEngine (tells : Type 0) (old new : History) (before now : FrameRunning) : Type 0 where
  pub same : IsSameEngine before now
  pub log : now.log ≡ before.log
  pub ckpt : now.ckpt ≡ before.ckpt
  pub began : now.began ≡ before.began
  pub order : now.order ≡ before.order
  pub dirty : (id : PageId) → IsDirtyPage now.store id ↔ IsDirtyPage before.store id
  pub pages : tells → pages_in_frames now.store new.world ≡ pages_in_frames before.store old.world
  pub clean : tells → HasCleanPages now.store new.world
  pub world : tells → ChangesNoWorld old new

-- Lines were run, of which the first has this number: at `Ok` all of them, and at an `Err` a prefix. After out of
-- memory the engine is open, and the other lines had no effect. Any other fault closes it: a prefix of what these
-- lines handed over is in the log then.
--
-- Where the engine's store has done some lines, and there are numbers for so many segments and checkpoints more, it
-- does what the model of lines says, and no page is found bad. Of any store, a page that couldn't be used is one that a
-- line met.
pub record RunsFrameBatch (tells : Type 0) (old new : History) (first : ℕ) (lines : List Line)
    (segments checkpoints : ℕ) (before now : FrameRunning) (was replies : ReplyList)
    (result : Result (Unit {0}) StoreFault) : Type 0 where
  pub tried : ℕ
  pub within : tried ≤ length lines
  pub all : OnOk result (tried ≡ length lines)
  pub same : IsSameEngine before now
  pub is_open : StaysOpen result → now.store.is_open ≡ true
  pub closed : (StaysOpen result → ⊥) → now.store.is_open ≡ false
  -- each line took room for one reply
  pub spare : StaysOpen result → was.spare ≤ tried + replies.spare
  pub ends : tells → StaysOpen result → EndsThere now.log new.world
  pub clean : tells → StaysOpen result → HasCleanPages now.store new.world
  -- nothing but the store's files is changed
  pub disk : tells → AllMoments old new (ChangesDisk old.world)
  -- the replies are those to these lines, the map is the one after them, and each partition is well formed
  pub evaluates : tells → StaysOpen result → MayGoOn before old.world segments checkpoints
      → EvaluatesLines before.store.shape (take tried lines) (pages_in_frames before.store old.world)
      (pages_in_frames now.store new.world) was replies
  -- the accepted ones of these lines are in the order, also where what they handed over couldn't be appended whole
  pub order : tells → MayGoOn before old.world segments checkpoints
      → now.order ≡ before.order ++ accepted before.store.shape first (take tried lines) (map_in before old.world)
  pub sound : tells → MayGoOn before old.world segments checkpoints → (id : PageId) → IsErrOf result (BadPage id) → ⊥
  -- of any store: which partitions change, and which page is found bad
  pub meets : tells → (may_change : ℕ → Bool) → All (AllowsLine may_change before.store.shape) lines
      → KeepsOrMeets tells may_change before.store.shape (pages_in_frames before.store old.world)
      (pages_in_frames now.store new.world) (StaysOpen result) (λ id. IsErrOf result (BadPage id))
  -- Whatever lines the store had done, it has done these too, and a crash meanwhile leaves a prefix of all, and goes
  -- no further than these segments and one more, and these checkpoints.
  pub runs : tells → StaysOpen result → (wanted : Shape) (told : List ℕ → ℕ) (from : ℕ) (start : Pairs)
      (done : List Line) → HasDoneLines wanted told from start done before old.world
      → HasNumbersIn before segments checkpoints
      → HasDoneLines wanted told from start (done ++ take tried lines) now new.world
  pub crash : tells → (wanted : Shape) (told : List ℕ → ℕ) (from : ℕ) (start : Pairs) (done : List Line)
      → HasDoneLines wanted told from start done before old.world → HasNumbersIn before segments checkpoints
      → AllMoments old new (CrashHoldsLines (before.log.end.seg + (segments + 1))
      (number_of before.ckpt.mark + checkpoints) wanted before.store.shape start (done ++ take tried lines))

-- Whatever lines the store had done, at `Ok` these and the lines that were run last, where there are numbers for so
-- many segments and checkpoints more.
abbrev pub LeavesAllLastingIn : Type 0 → History → History → List Line → ℕ → ℕ → FrameRunning → FrameRunning
    → Result (Unit {0}) StoreFault → Type 0
LeavesAllLastingIn tells old new lines segments checkpoints before now result =
    tells → (wanted : Shape) (told : List ℕ → ℕ) (from : ℕ) (start : Pairs) (done : List Line)
    → HasDoneLines wanted told from start done before old.world → HasNumbersIn before segments checkpoints
    → OnOk result (HasLastingLinesIn wanted told from start (done ++ lines) now new.world)

-- whatever lines the store had done, at `Ok` it is at rest, where there are numbers for so many segments and
-- checkpoints more: whatever a crash leaves now holds its map
abbrev pub LeavesAllAtRest : Type 0 → History → History → ℕ → ℕ → FrameRunning → FrameRunning
    → Result (Unit {0}) StoreFault → Type 0
LeavesAllAtRest tells old new segments checkpoints before now result =
    tells → (wanted : Shape) (told : List ℕ → ℕ) (from : ℕ) (start : Pairs) (done : List Line)
    → HasDoneLines wanted told from start done before old.world → HasNumbersIn before segments checkpoints
    → OnOk result (AllLastIn wanted told now new.world)

-- The count of faults doesn't fall, `Failed` comes only where it rose, and no record is bad.
pub record HasFrameFault {T : Type 0} (before now : DeviceState) (result : Result T StoreFault) : Type 0 where
  pub later : IsLaterState before now
  pub failed : IsErrOf result Failed → Rose before now
  pub no_record : (at : Place) → IsErrOf result (BadRecord at) → ⊥

-- A checkpoint was made between two lines: no line was done, and all that were before last. No checkpoint is due then.
pub record ChecksBetween (tells : Type 0) (old new : History) (before now : FrameRunning)
    (result : Result (Unit {0}) StoreFault) : Type 0 where
  pub runs : (first : ℕ) (list : ReplyList) → RunsFrameBatch tells old new first [] 1 1 before now list list result
  pub lasts : LeavesAllLastingIn tells old new [] 1 1 before now result
  pub numbers : StaysOpen result → TakesNumbersIn before now 1 1
  pub made : OnOk result (number_of before.ckpt.mark + 1 < 2 ^ 64
      → number_of before.ckpt.mark + 1 ≤ number_of now.ckpt.mark)
  pub ends : OnOk result (EndsAtReplayIn now)
  pub not_due : (most : ℕ) (config : Config) → OnOk result (is_due_past most now config ≡ false)
  pub order : now.order ≡ before.order
  pub plain : IfErr result (λ fault. fault ≡ Failed)

-- An engine was looked at, and a checkpoint made where more bytes of log were counted than an opening may leave. No
-- checkpoint was made only where the count is as it was.
pub record SettlesEngine (tells : Type 0) (old new : History) (config : Config) (before now : FrameRunning)
    (result : Result (Unit {0}) StoreFault) : Type 0 where
  pub runs : (first : ℕ) (list : ReplyList) → RunsFrameBatch tells old new first [] 1 1 before now list list result
  pub numbers : StaysOpen result → TakesNumbersIn before now 1 1
  pub not_due : OnOk result (is_due_idle now config ≡ false)
  pub counted : OnOk result (EndsAtReplayIn now ⊎ (now.began ≡ before.began))
  pub order : now.order ≡ before.order
  pub plain : IfErr result (λ fault. fault ≡ Failed)

-- what is said of a part of a batch, without how many of its lines were run
abbrev pub without_count : Result ℕ StoreFault → Result (Unit {0}) StoreFault
without_count (Ok count) = Ok tt
without_count (Err fault) = Err fault

-- the lines that were run at `Ok`, or that might have been
abbrev pub lines_run : List Line → Result ℕ StoreFault → List Line
lines_run lines (Ok count) = take count lines
lines_run lines (Err fault) = lines

-- how many lines were done
abbrev pub count_done : Result ℕ StoreFault → ℕ
count_done (Ok count) = count
count_done (Err fault) = 0

-- whether a line isn't done in a round with others: a scan, or one that asks for a checkpoint
abbrev pub is_alone : Line → Bool
is_alone (Good (Put cache key value)) = false
is_alone (Good (Get cache key)) = false
is_alone (Good (Remove cache key)) = false
is_alone (Good (Scan cache)) = true
is_alone (Good Checkpoint) = true
is_alone Bad = false
is_alone Long = false

-- each of these lines may be done in a round with others
abbrev pub AreRoundLines : List Line → Type 0
AreRoundLines lines = (i : ℕ) (line : Line) → slice_get lines i ≡ Some line → is_alone line ≡ false

-- How many lines a round did, if it may be followed by another one. Frames lack only where none was done, no page failed,
-- and the next round may go on.
abbrev pub CountsRound : RoundEnd → Result ℕ StoreFault → Type 0
CountsRound end (Ok count) = (count ≡ end.done) × (may_go_on end.stop ≡ true)
CountsRound end (Err fault) =
    ((fault ≡ Memory Frames) × (end.done ≡ 0) × (may_go_on end.stop ≡ true))
    ⊎ ((it : PageFault) × (end.stop ≡ Some (Faulted it)) × (fault ≡ store_fault_of it))

-- frames lack where no line was done
abbrev pub LacksUnlessDone : ℕ → Result ℕ StoreFault → Type 0
LacksUnlessDone done (Ok count) = count ≡ done
LacksUnlessDone done (Err fault) = (fault ≡ Memory Frames) × (done ≡ 0)

-- frames lack where none was done
abbrev pub LacksIfNone : Result ℕ StoreFault → Result ℕ StoreFault → Type 0
LacksIfNone (Ok count) result = ((count ≡ 0) × (result ≡ Err (Memory Frames))) ⊎ ((1 ≤ count) × (result ≡ Ok count))
LacksIfNone (Err fault) result = result ≡ Err fault

-- the same of a scan
abbrev pub CountsScan : Result (Unit {0}) ScanStop → Result ℕ StoreFault → Type 0
CountsScan (Ok done) result = result ≡ Ok 1
CountsScan (Err (scan.Halted halt)) result = (result ≡ Ok 0) ⊎ (result ≡ Err (Memory Frames))
CountsScan (Err scan.Memory) result = result ≡ Err (Memory Bytes)
CountsScan (Err (scan.Faulted fault)) result = result ≡ Err (store_fault_of fault)

-- A round of some of these lines was run, or the first one is a scan and was tried: it is said how many were done, perhaps
-- none.
pub record TriesLines (tells : Type 0) (old new : History) (first : ℕ) (lines : List Line) (before now : FrameRunning)
    (was replies : ReplyList) (result : Result ℕ StoreFault) : Type 0 where
  pub inside : IfOk result (λ count. count ≤ length lines)
  pub runs : RunsFrameBatch tells old new first (lines_run lines result) ((OP_PAGES + 1) * length lines) 0 before now
      was replies (without_count result)
  pub numbers : StaysOpen (without_count result)
      → TakesNumbersIn before now ((OP_PAGES + 1) * count_done result) 0
  pub none_asked : IfOk result (λ count. checkpoints_in (take count lines) ≡ 0)

-- The first of these lines were run, at least one of them: it is said how many. Each may take a checkpoint.
pub record RunsPart (tells : Type 0) (old new : History) (first : ℕ) (lines : List Line) (before now : FrameRunning)
    (was replies : ReplyList) (result : Result ℕ StoreFault) : Type 0 where
  pub some : IfOk result (λ count. 1 ≤ count)
  pub inside : IfOk result (λ count. count ≤ length lines)
  pub runs : RunsFrameBatch tells old new first (lines_run lines result) ((OP_PAGES + 2) * length lines)
      (length lines) before now was replies (without_count result)
  pub numbers : StaysOpen (without_count result) → TakesNumbersIn before now
      ((OP_PAGES + 2) * length (lines_run lines result)) (length (lines_run lines result))
  pub asked : OnOk result (MakesAskedIn before now (lines_run lines result) (length (lines_run lines result)))

-- Lines were run one part after the other, and each may take a checkpoint.
pub record RunsAllParts (tells : Type 0) (old new : History) (first : ℕ) (lines : List Line) (before now : FrameRunning)
    (was replies : ReplyList) (result : Result (Unit {0}) StoreFault) : Type 0 where
  pub runs : RunsFrameBatch tells old new first lines ((OP_PAGES + 2) * length lines) (length lines) before now was
      replies result
  pub numbers : StaysOpen result → TakesNumbersIn before now ((OP_PAGES + 2) * length lines) (length lines)
  pub asked : OnOk result (MakesAskedIn before now lines (length lines))
