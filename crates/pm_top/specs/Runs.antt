-- How far a run has come.
use Rattle.std.specs.Prelude.{◌≡◌, ◌+◌, ◌*◌, ◌≤◌, ◌<◌, ◌^◌, ℕ, List, [], ◌++◌, length, true, false, Result, Ok, Err}
use Rattle.std.specs.Prelude.{IfOk, OnOk, IsErrOf, Bool}
use Rattle.std.specs.List.{All}
use Rattle.pm_types.specs.declared.limits.TheConstants.{LINES_MAX}
use Rattle.pm_types.specs.declared.fault.StoreFault.{StoreFault}
use Rattle.pm_types.specs.declared.fault.StoreFault.TheVariants.{BadPage, Failed, Memory}
use Rattle.pm_types.specs.declared.fault.Lack.{Lack}
use Rattle.pm_types.specs.declared.page_id.PageId.{PageId}
use Rattle.pm_types.specs.declared.shape.Shape.{Shape}
use Rattle.pm_disk.specs.Moments.{History, AllMoments}
use Rattle.pm_disk.specs.Worlds.{World}
use Rattle.pm_model.specs.declared.line.Line.{Line}
use Rattle.pm_model.specs.Eval.{Pairs, replies_to, after_all, accepted}
use Rattle.pm_script.specs.Reading.{Unread, KnowsEnd}
use Rattle.pm_script.specs.Texts.{texts_of}
use Rattle.pm_engine.specs.FrameBatches.{EndsAtReplayIn, TakesNumbersIn}
use Rattle.pm_engine.specs.Engines.{FrameRunning, IsSameEngine, map_in}
use Rattle.pm_engine.specs.FrameOpenings.{IsReadyOver}
use Rattle.pm_engine.specs.FrameStores.{pages_in_frames}
use Rattle.pm_engine.specs.MetPages.{AllowsLine, KeepsPagesBut, KeepsOrMeets}
use Rattle.pm_engine.specs.Batches.{asked_last}
use Rattle.pm_engine.specs.RunningStores.{number_of}
use Rattle.pm_top.specs.FrameRests.{FrameAtRest}
use Rattle.pm_top.specs.declared.batch.Continuation.{Continuation}
use Rattle.pm_top.specs.declared.batch.Continuation.TheVariants as then_comes
use Rattle.pm_top.specs.declared.run.Run.{Run}
use Rattle.pm_top.specs.declared.run.Stop.{Stop}
use Rattle.pm_top.specs.declared.run.Stop.TheVariants as stops
use Rattle.pm_top.specs.declared.status.Status.{Status}
use Rattle.pm_top.specs.declared.status.Status.TheVariants.{Done}
use Rattle.pm_top.specs.Promises.{IsLeft, IsMetByLine, SameConfig}
use Rattle.pm_top.specs.ScriptOrder.{CrashHoldsAcknowledged, HasFailed, HasNoMemory, OutcomeIs, StopIs}
use Rattle.pm_top.specs.Scripts.{LinesAreTaken, ContinuationIs}
use Rattle.pm_top.specs.Served.{script_of}

-- nothing was said and no input taken since the start
pub record SameConsole (start now : World) : Type 0 where
  pub said : now.said ≡ start.said
  pub input : now.input ≡ start.input

-- the configuration is as it was, and no input was taken
pub record OnlyAnswers (old new : World) : Type 0 where
  pub config : SameConfig old new
  pub input : new.input ≡ old.input

-- the most segments and checkpoints that so many lines take, in batches of their own at worst
abbrev pub segments_for : ℕ → ℕ
segments_for lines = 35 * lines

abbrev pub checkpoints_for : ℕ → ℕ
checkpoints_for lines = 2 * lines

-- so many lines took no more numbers than they may
abbrev pub TakesFor : ℕ → FrameRunning → FrameRunning → Type 0
TakesFor lines before now = TakesNumbersIn before now (segments_for lines) (checkpoints_for lines)

-- so many lines more are counted, the engine is open and took no more numbers than they may
pub record CountsLines (old new : Run) (count : ℕ) : Type 0 where
  pub counted : new.lines ≡ old.lines + count
  pub is_open : new.engine.store.is_open ≡ true
  pub numbers : TakesFor count old.engine new.engine

-- a run goes on with a store of the same shape, in the same frames
abbrev pub KeepsRun : Run → Run → Type 0
KeepsRun before now = IsSameEngine before.engine now.engine

-- its order has what it had
pub record KeepsOrder (before now : Run) : Type 0 where
  pub more : List ℕ
  pub order : now.engine.order ≡ before.engine.order ++ more

-- How far a run has come from a start with this map: the lines that are done, and what follows from
-- them. These lines are left.
pub record Progress (start now : World) (left : List Line) (shape : Shape) (pairs : Pairs)
    (run : Run) : Type 0 where
  pub done : List Line
  pub script : script_of start.input ≡ done ++ left
  pub count : length done ≡ run.lines
  pub said : now.said ≡ start.said ++ texts_of (replies_to shape done pairs)
  pub shape_is : run.engine.store.shape ≡ shape
  pub map : map_in run.engine now ≡ after_all shape done pairs
  pub order : run.engine.order ≡ accepted shape 1 done pairs
  pub replay : asked_last false done ≡ true → EndsAtReplayIn run.engine

-- A fault came after the replies to the lines that are counted: a call failed, or memory ran out.
pub record FaultIs {T : Type 0} (start now : World) (shape : Shape) (pairs : Pairs) (run : Run)
    (result : Result T StoreFault) : Type 0 where
  pub failed : IsErrOf result Failed → HasFailed start now shape pairs run.lines run.engine.order
  pub memory : (lack : Lack) → IsErrOf result (Memory lack) → HasNoMemory start now shape pairs run.lines run.engine.order

-- Lines were answered, and these are left; or a fault came.
pub record LinesAreAnswered {T : Type 0} (start now : World) (left : List Line) (shape : Shape)
    (pairs : Pairs) (run : Run) (result : Result T StoreFault) : Type 0 where
  pub done : OnOk result (Progress start now left shape pairs run)
  pub fault : FaultIs start now shape pairs run result

-- What the lines of a batch count for: a script that goes on has some, and not too many.
pub record CountsBatch (continuation : Continuation) (input : Unread) (before now : Run) : Type 0 where
  pub few : now.lines ≤ LINES_MAX
  pub same : continuation ≡ then_comes.More → now.lines ≡ input.lines
  pub some : continuation ≡ then_comes.More → before.lines < now.lines
  pub is_open : now.engine.store.is_open ≡ true
  pub more : ℕ
  pub lines : now.lines ≡ before.lines + more
  pub numbers : TakesFor more before.engine now.engine

-- At no moment was the configuration changed. Where no fault came, the engine goes on over this disk, and what is
-- known of the input's end holds.
pub record IsOpenAfter {T : Type 0} (old new : History) (engine : FrameRunning) (input : Unread)
    (result : Result T StoreFault) : Type 0 where
  pub config : AllMoments old new (SameConfig old.world)
  pub ready : OnOk result (IsReadyOver engine new.world)
  pub input_end : OnOk result (KnowsEnd input new.world)

-- with so many lines more the log's last segment and the checkpoint in force have numbers up to these, and a
-- crash leaves no higher ones
pub record StaysWithin (last number lines : ℕ) (engine : FrameRunning) : Type 0 where
  pub segments : engine.log.end.seg + segments_for lines + 2 ≤ last
  pub checkpoints : number_of engine.ckpt.mark + checkpoints_for lines ≤ number
  pub last_fits : last < 2 ^ 64
  pub number_fits : number < 2 ^ 64

-- A run may go on by so many lines: its engine is at rest, and there are numbers for them.
pub record MayRun (wanted : Shape) (last number lines : ℕ) (engine : FrameRunning) (world : World) : Type 0 where
  pub stands : FrameAtRest wanted engine world
  pub within : StaysWithin last number lines engine

-- a run over a whole script may begin
abbrev pub CanRun : Shape → ℕ → ℕ → FrameRunning → World → Type 0
CanRun wanted last number engine world = MayRun wanted last number (LINES_MAX + 2048) engine world

-- How a run went on over a store that is at rest. Of the script these lines were to come, and those are left. No
-- page was found bad, and its order has what it had.
pub record GoesOn {T : Type 0} (wanted : Shape) (last number : ℕ) (old new : History) (script left : List Line)
    (before now : Run) (result : Result T StoreFault) : Type 0 where
  pub order : KeepsOrder before now
  pub sound : (id : PageId) → IsErrOf result (BadPage id) → ⊥
  pub rests : OnOk result (FrameAtRest wanted now.engine new.world)
  -- what was answered
  pub answered : (start : World) (shape : Shape) (pairs : Pairs) → Progress start old.world script shape pairs before
      → LinesAreAnswered start new.world left shape pairs now result
  -- what a crash leaves
  pub moments : (start : World) (shape : Shape) (pairs : Pairs) → Progress start old.world script shape pairs before
      → AllMoments old new (CrashHoldsAcknowledged wanted last number start shape pairs now.engine.order)

-- Lines of a run were answered. What is said of replies, and of a crash, is said of a store that is at rest, where
-- there are numbers for so many lines.
pub record AnswersLines (tells : Type 0) (old new : History) (lines : List Line) (before now : Run)
    (result : Result (Unit {0}) StoreFault) : Type 0 where
  pub keeps : KeepsRun before now
  pub counts : OnOk result (CountsLines before now (length lines))
  pub ready : tells → OnOk result (IsReadyOver now.engine new.world)
  pub only_answers : tells → AllMoments old new (OnlyAnswers old.world)
  -- of any store: which partitions changed, and which page a line met that couldn't be used
  pub meets : tells → (may_change : ℕ → Bool) → All (AllowsLine may_change before.engine.store.shape) lines
      → KeepsOrMeets (Unit {0}) may_change before.engine.store.shape (pages_in_frames before.engine.store old.world)
      (pages_in_frames now.engine.store new.world) (result ≡ Ok tt) (λ id. IsErrOf result (BadPage id))
  pub goes : tells → (wanted : Shape) (last number : ℕ) → MayRun wanted last number (length lines) before.engine old.world
      → (left : List Line) → GoesOn wanted last number old new (lines ++ left) left before now result

-- Of any store: a run did lines of its script, of which these were to come, and at `Ok` others come after them: those are
-- left, unless the script goes on with a line that isn't ended within the limits. Which partitions changed, and which page
-- a line met that couldn't be used.
pub record MeetsOnScript (script left : List Line) (old new : World) (before now : Run)
    (result : Result Continuation StoreFault) : Type 0 where
  pub lines : List Line
  pub others : List Line
  pub taken : OnOk result (script ≡ lines ++ others)
  pub left_are : IfOk result (λ continuation. (continuation ≡ then_comes.Over → ⊥) → others ≡ left)
  pub keeps : OnOk result ((may_change : ℕ → Bool) → All (AllowsLine may_change before.engine.store.shape) lines
      → KeepsPagesBut may_change (pages_in_frames before.engine.store old) (pages_in_frames now.engine.store new))
  pub meets : (id : PageId) → IsErrOf result (BadPage id)
      → IsMetByLine before.engine.store.shape (pages_in_frames before.engine.store old) script id

-- a fault came on the way of a run, of whose script these lines were to come
abbrev pub StopsAtFault : History → History → List Line → Run → Run → StoreFault → Type 0
StopsAtFault old new script before now fault =
    (wanted : Shape) (last number : ℕ) → MayRun wanted last number 2048 before.engine old.world
    → GoesOn {T = Unit {0}} wanted last number old new script [] before now (Err fault)

-- How a run went on by some lines of its script, which goes on so after them.
pub record BatchIsAnswered (continuation : Continuation) (old new : Unread) (rest now_rest : List ℕ)
    (was now : History) (before later : Run) : Type 0 where
  pub lines : List Line
  pub at : Unread
  pub left : List ℕ
  pub taken : LinesAreTaken old at rest left lines
  pub count : later.lines ≡ before.lines + length lines
  pub continues : ContinuationIs continuation at new left now_rest
  -- what was answered, and what a crash leaves
  pub goes : (wanted : Shape) (last number : ℕ) → MayRun wanted last number 2048 before.engine was.world
      → GoesOn {T = Unit {0}} wanted last number was now (script_of rest) (script_of left) before later (Ok tt)

-- A run over a script, up to where it stops, over a store over which it may begin. No page was found bad.
pub record IsServed (wanted : Shape) (last number : ℕ) (start : World) (shape : Shape) (pairs : Pairs)
    (old new : History) (now : Run) (result : Result Stop StoreFault) : Type 0 where
  pub stop : IfOk result (λ stop. StopIs stop start new.world shape pairs now.lines now.engine.order)
  pub fault : FaultIs start new.world shape pairs now result
  pub sound : (id : PageId) → IsErrOf result (BadPage id) → ⊥
  pub moments : AllMoments old new (CrashHoldsAcknowledged wanted last number start shape pairs now.engine.order)
  pub leaves : IfOk result (λ stop. stop ≡ stops.Done → IsLeft wanted last number start new.world shape pairs)

-- A script was answered over a store over which a run may begin, and it was said where it passes a limit.
pub record ScriptIsAnswered (wanted : Shape) (last number : ℕ) (start : World) (shape : Shape) (pairs : Pairs)
    (old new : History) (status : Status) (lines : ℕ) (order : List ℕ) : Type 0 where
  pub outcome : OutcomeIs status start new.world shape pairs lines order
  pub moments : AllMoments old new (CrashHoldsAcknowledged wanted last number start shape pairs order)
  pub leaves : status ≡ Done → IsLeft wanted last number start new.world shape pairs
