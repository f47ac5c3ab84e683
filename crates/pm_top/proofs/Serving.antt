-- How a run over a script goes on batch after batch, and how it ends.
use Rattle.std.proofs.Common.{◌≡◌, inl, inr, ℕ, zero, suc, ◌+◌, ◌-◌, ◌≤◌, List, [], ◌∷◌, ◌++◌, length, take, Result, Ok, Err, refl, ap, sym, ◌∙◌, subst, append-nil, arith, length-append}
use Rattle.pm_types.specs.declared.fault.StoreFault.{StoreFault}
use Rattle.pm_types.specs.declared.fault.StoreFault.TheVariants.{BadPage, Failed, Memory}
use Rattle.pm_types.specs.declared.fault.Lack.TheVariants.{Bytes}
use Rattle.pm_types.specs.declared.limits.TheConstants.{SCRIPT_BYTES_MAX, LINES_MAX}
use Rattle.pm_types.specs.declared.shape.Shape.{Shape}
use Rattle.pm_disk.specs.Worlds.{World}
use Rattle.pm_disk.specs.Moments.{History, IsHistory, AllMoments}
use Rattle.pm_disk.proofs.Chain.{at_last, weaker}
use Rattle.pm_model.specs.declared.line.Line.{Line}
use Rattle.pm_model.specs.Eval.{Pairs}
use Rattle.pm_script.specs.Reading.{Unread}
use Rattle.pm_core.specs.Calls.{ChangesDisk}
use Rattle.pm_model.specs.ReplyLists.{ReplyList}
use Rattle.pm_engine.specs.Engines.{AllLastIn, HasDoneLines, map_in}
use Rattle.pm_engine.specs.Batches.{StaysOpen}
use Rattle.pm_engine.specs.FrameBatches.{EndsAtReplayIn, HasNumbersIn, RunsFrameBatch, TakesNumbersIn}
use Rattle.pm_engine.specs.RunningStores.{number_of}
use Rattle.pm_engine.specs.RunningLines.{CrashHoldsLines, says_nothing}
use Rattle.pm_engine.proofs.RunningLines.{moments_further}
use Rattle.pm_top.specs.declared.batch.Continuation.{Continuation}
use Rattle.pm_top.specs.declared.batch.Continuation.TheVariants as then_comes
use Rattle.pm_top.specs.declared.run.Run.{Run}
use Rattle.pm_top.specs.declared.run.Stop.TheVariants as stops
use Rattle.pm_top.specs.Crashes.{CrashKeeps}
use Rattle.pm_top.specs.Promises.{IsLeft}
use Rattle.pm_top.specs.ScriptOrder.{CrashHoldsAcknowledged, HasFailed, HasNoMemory, IsStopped}
use Rattle.pm_top.specs.Runs.{BatchIsAnswered, CanRun, GoesOn, IsServed, MayRun, Progress, SameConsole, StaysWithin, TakesFor}
use Rattle.pm_top.specs.Limits.{after_lines}
use Rattle.pm_top.specs.Scripts.{ContinuationIs}
use Rattle.pm_top.specs.Served.{script_of}
use Rattle.pm_top.proofs.AnsweredBatch.{idle_none, idle_stops}
use Rattle.pm_top.proofs.AnsweredLines.{both, err_same, within_fewer, within_left}
use Rattle.pm_top.proofs.FrameRests.{rest_of_last}
use Rattle.pm_top.proofs.TakenLines.{after_lines-add}
use Rattle.pm_top.proofs.Lasting.{keeps_rest}
use Rattle.pm_top.proofs.Leaving.{leaves_store}
use Rattle.pm_top.proofs.Progressing.{begins, failed_still, finished, memory_still, stopped}

-- ---- what a batch leaves to be read

module _ (continuation : Continuation) {old new : Unread} {rest now_rest : List ℕ} {was now : History} {before later : Run} (answered : BatchIsAnswered continuation old new rest now_rest was now before later) (input : List ℕ) where
  count_there : before.lines ≡ old.lines → later.lines ≡ old.lines + length answered.lines
  count_there counted = omega (arith, answered.count, counted)

  left_place : before.lines ≡ old.lines → rest ≡ after_lines old.lines input → answered.left ≡ after_lines later.lines input
  left_place counted place =
      answered.taken.place ∙ ap (after_lines (length answered.lines)) place ∙ sym (after_lines-add old.lines (length answered.lines) input)
      ∙ ap (λ n. after_lines n input) (sym (count_there counted))

  left_bytes : old.bytes + length rest ≡ length input → answered.at.bytes + length answered.left ≡ length input
  left_bytes bytes = omega (arith, answered.taken.bytes, bytes)

  -- more lines are left
  module _ (is : continuation ≡ then_comes.More) where
    more_is : (answered.at ≡ new) × (answered.left ≡ now_rest)
    more_is = subst (λ b. ContinuationIs b answered.at new answered.left now_rest) is answered.continues

    pub more_place : before.lines ≡ old.lines → later.lines ≡ new.lines → rest ≡ after_lines old.lines input → now_rest ≡ after_lines new.lines input
    more_place counted lines place = sym more_is.1 ∙ left_place counted place ∙ ap (λ n. after_lines n input) lines

    pub more_bytes : old.bytes + length rest ≡ length input → new.bytes + length now_rest ≡ length input
    more_bytes bytes = omega (arith, left_bytes bytes, ap (λ (u : Unread). u.bytes) more_is.0, ap (λ (l : List ℕ). length l) more_is.1)

    pub more_limit : old.bytes ≤ SCRIPT_BYTES_MAX → new.bytes ≤ SCRIPT_BYTES_MAX
    more_limit few = omega (arith, answered.taken.few_bytes few, ap (λ (u : Unread). u.bytes) more_is.0)

    pub more_goes : (wanted : Shape) (last number : ℕ) → MayRun wanted last number 2048 before.engine was.world → GoesOn {T = Unit {0}} wanted last number was now (script_of rest) (script_of now_rest) before later (Ok tt)
    more_goes wanted last number can = subst (λ r. GoesOn {T = Unit {0}} wanted last number was now (script_of rest) (script_of r) before later (Ok tt)) more_is.1 (answered.goes wanted last number can)

  -- nothing is left
  module _ (is : continuation ≡ then_comes.End) where
    end_is : (answered.left ≡ []) × (now_rest ≡ [])
    end_is = subst (λ b. ContinuationIs b answered.at new answered.left now_rest) is answered.continues

    pub end_none : now_rest ≡ []
    end_none = end_is.1

    pub end_goes : (wanted : Shape) (last number : ℕ) → MayRun wanted last number 2048 before.engine was.world → GoesOn {T = Unit {0}} wanted last number was now (script_of rest) [] before later (Ok tt)
    end_goes wanted last number can = subst (λ r. GoesOn {T = Unit {0}} wanted last number was now (script_of rest) (script_of r) before later (Ok tt)) end_is.0 (answered.goes wanted last number can)

    pub end_limit : old.bytes ≤ SCRIPT_BYTES_MAX → old.bytes + length rest ≡ length input → length input ≤ SCRIPT_BYTES_MAX
    end_limit few bytes = omega (arith, answered.taken.few_bytes few, left_bytes bytes, ap (λ (l : List ℕ). length l) end_is.0)

  -- a line is left that isn't ended within the limits
  pub over_stopped : continuation ≡ then_comes.Over → before.lines ≡ old.lines → rest ≡ after_lines old.lines input → old.bytes + length rest ≡ length input → old.bytes ≤ SCRIPT_BYTES_MAX → later.lines ≤ LINES_MAX
      → (start : World) (shape : Shape) (pairs : Pairs) → start.input ≡ input → Progress start now.world (script_of answered.left) shape pairs later → IsStopped start now.world shape pairs later.lines later.engine.order []
  over_stopped is counted place bytes few lines start shape pairs same progress =
      let over = subst (λ b. ContinuationIs b answered.at new answered.left now_rest) is answered.continues in
      let long : length start.input ≡ length input = ap (λ (l : List ℕ). length l) same in
      stopped progress now.world answered.left refl refl (left_place counted place ∙ ap (after_lines later.lines) (sym same)) over.some lines
      (omega (arith, left_bytes bytes, answered.taken.few_bytes few, long))
      (elim over.over [
        | inl full ↦ inl (omega (arith, full, answered.taken.count, count_there counted))
        | inr past ↦ inr (omega (arith, past, left_bytes bytes, long))
      ])

-- ---- the force at the end, and a checkpoint where one is made

abbrev pub none_said : ReplyList
none_said = record { replies = []; spare = 0 }

take_no_line : (n : ℕ) → ◌++◌ {A = Line} [] (take n []) ≡ []
take_no_line n = take_none n
  where
    take_none : (n : ℕ) → take {A = Line} n [] ≡ []
    take_none zero = refl
    take_none (suc n) = refl

module _ (wanted : Shape) (last number lines : ℕ) (mid new : History) (run later : Run) (left : List Line) (can : MayRun wanted last number lines run.engine mid.world) (sound : IsHistory new) (lines_is : later.lines ≡ run.lines)
    (disk : AllMoments mid new (ChangesDisk mid.world))
    (some : 1 ≤ lines) {tells : Type 0} (t : tells) {r : Result (Unit {0}) StoreFault} (runs : RunsFrameBatch tells mid new 1 [] 1 1 run.engine later.engine none_said none_said r) (order_is : later.engine.order ≡ run.engine.order) where
  only : ChangesDisk mid.world new.world
  only = at_last mid new (ChangesDisk mid.world) sound disk

  -- a checkpoint takes no more numbers than a line
  pub numbers : HasNumbersIn run.engine 1 1
  numbers = record { in_log = omega (arith, can.within.segments, can.within.last_fits, some); in_marks = omega (arith, can.within.checkpoints, can.within.number_fits, some) }

  crash : AllMoments mid new (CrashHoldsLines (run.engine.log.end.seg + (1 + 1)) (number_of run.engine.ckpt.mark + 1) wanted run.engine.store.shape (map_in run.engine mid.world) [])
  crash =
      subst (λ (ls : List Line). AllMoments mid new (CrashHoldsLines (run.engine.log.end.seg + (1 + 1)) (number_of run.engine.ckpt.mark + 1) wanted run.engine.store.shape (map_in run.engine mid.world) ls)) (take_no_line runs.tried)
      (runs.crash t wanted says_nothing can.stands.from (map_in run.engine mid.world) [] can.stands.has numbers)

  force_keeps : AllMoments mid new (CrashKeeps wanted last number run.engine.store.shape (map_in run.engine mid.world) [])
  force_keeps =
      moments_further (run.engine.log.end.seg + (1 + 1)) (number_of run.engine.ckpt.mark + 1) last number wanted run.engine.store.shape (map_in run.engine mid.world) [] mid new (omega (arith, can.within.segments)) (omega (arith, can.within.checkpoints, some)) crash

  -- while the log is forced
  force_moments : (start : World) (shape : Shape) (pairs : Pairs) → Progress start mid.world left shape pairs run → AllMoments mid new (CrashHoldsAcknowledged wanted last number start shape pairs later.engine.order)
  force_moments start shape pairs progress =
      let Q : World → Type 0 = CrashKeeps wanted last number run.engine.store.shape (map_in run.engine mid.world) [] in
      subst (λ (o : List ℕ). AllMoments mid new (CrashHoldsAcknowledged wanted last number start shape pairs o)) (sym order_is)
      (weaker mid new (λ w. Q w × ChangesDisk mid.world w) (CrashHoldsAcknowledged wanted last number start shape pairs run.engine.order)
      (λ w is. keeps_rest progress wanted last number w is.1.said is.0) (both mid new Q (ChangesDisk mid.world) force_keeps disk))

  -- that failed
  pub force_stops : GoesOn {T = Unit {0}} wanted last number mid new left [] run later (Err Failed)
  force_stops =
      let order = order_is in
      record {
        order = record { more = []; order = order ∙ sym (append-nil run.engine.order) };
        sound = λ id is. absurd (let both : Failed ≡ BadPage id = err_same Failed (BadPage id) _ refl is in cc);
        rests = tt;
        answered = λ start shape pairs progress. record {
          done = tt;
          fault = record {
            failed = λ _. subst (λ (x : ℕ × List ℕ). HasFailed start new.world shape pairs x.0 x.1) (λ i. (sym lines_is i, sym order i)) (failed_still progress new.world only.said);
            memory = λ _ _. subst (λ (x : ℕ × List ℕ). HasNoMemory start new.world shape pairs x.0 x.1) (λ i. (sym lines_is i, sym order i)) (memory_still progress new.world only.said);
          };
        };
        moments = force_moments;
      }

  module _ (stays : StaysOpen r) (takes : TakesNumbersIn run.engine later.engine 1 1) (still : EndsAtReplayIn run.engine → EndsAtReplayIn later.engine) (lasts : AllLastIn wanted says_nothing later.engine new.world) where
    map : map_in later.engine new.world ≡ map_in run.engine mid.world
    map =
        let done : HasDoneLines wanted says_nothing can.stands.from (map_in run.engine mid.world) [] later.engine new.world =
        subst (λ (ls : List Line). HasDoneLines wanted says_nothing can.stands.from (map_in run.engine mid.world) ls later.engine new.world) (take_no_line runs.tried) (runs.runs t stays wanted says_nothing can.stands.from (map_in run.engine mid.world) [] can.stands.has numbers) in
        done.has.map

    closed_progress : (start : World) (shape : Shape) (pairs : Pairs) → Progress start mid.world left shape pairs run → Progress start new.world left shape pairs later
    closed_progress start shape pairs progress = record {
      done = progress.done;
      script = progress.script;
      count = progress.count ∙ sym lines_is;
      said = only.said ∙ progress.said;
      shape_is = runs.same.shape ∙ progress.shape_is;
      map = map ∙ progress.map;
      order = order_is ∙ progress.order;
      replay = λ is. still (progress.replay is);
    }

    pub force_goes : GoesOn {T = Unit {0}} wanted last number mid new left left run later (Ok tt)
    force_goes =
        let order = order_is in
        record {
          order = record { more = []; order = order ∙ sym (append-nil run.engine.order) };
          sound = λ id is. absurd (let both : Ok tt ≡ Err (BadPage id) = is in cc);
          rests = rest_of_last wanted later.engine new.world lasts;
          answered = λ start shape pairs progress.
              let done = closed_progress start shape pairs progress in
              record { done = done; fault = record { failed = λ _. failed_still done new.world refl; memory = λ _ _. memory_still done new.world refl } };
          moments = force_moments;
        }

    -- the whole run left its store so
    pub force_leaves : left ≡ [] → (start : World) (shape : Shape) (pairs : Pairs) → Progress start new.world left shape pairs later → IsLeft wanted last number start new.world shape pairs
    force_leaves none start shape pairs progress =
        leaves_store wanted last number (lines - 1) later new.world (subst (λ (ls : List Line). Progress start new.world ls shape pairs later) none progress)
        (record {
          segments = omega (arith, takes.in_log, can.within.segments, some);
          checkpoints = omega (arith, takes.in_marks, can.within.checkpoints, some);
          last_fits = can.within.last_fits;
          number_fits = can.within.number_fits;
        }) (rest_of_last wanted later.engine new.world lasts) lasts

-- ---- what a run promises of its script

module _ (wanted : Shape) (last number : ℕ) (start : World) (shape : Shape) (pairs : Pairs) (old new : History) (script : List Line) (first now : Run) (progress : Progress start old.world script shape pairs first) where
  -- a fault ended it
  pub served_fault : (left : List Line) (fault : StoreFault) → GoesOn {T = Unit {0}} wanted last number old new script left first now (Err fault) → IsServed wanted last number start shape pairs old new now (Err fault)
  served_fault left fault goes =
      let its = (goes.answered start shape pairs progress).fault in
      record {
        stop = tt;
        fault = record { failed = λ is. its.failed (ap Err (err_same fault _ _ refl is)); memory = λ lack is. its.memory lack (ap Err (err_same fault _ _ refl is)) };
        sound = λ id is. goes.sound id (ap Err (err_same fault _ _ refl is));
        moments = goes.moments start shape pairs progress;
        leaves = tt;
      }

  module _ (left : List Line) (goes : GoesOn {T = Unit {0}} wanted last number old new script left first now (Ok tt)) where
    reached : Progress start new.world left shape pairs now
    reached = (goes.answered start shape pairs progress).done

    -- it stopped at a limit
    pub served_limit : (Progress start new.world left shape pairs now → IsStopped start new.world shape pairs now.lines now.engine.order []) → IsServed wanted last number start shape pairs old new now (Ok stops.Limit)
    served_limit over = record {
      stop = over reached;
      fault = record { failed = λ _. failed_still reached new.world refl; memory = λ _ _. memory_still reached new.world refl };
      sound = λ id is. absurd (let both : Ok stops.Limit ≡ Err (BadPage id) = is in cc);
      moments = goes.moments start shape pairs progress;
      leaves = λ is. absurd (let both : stops.Limit ≡ stops.Done = is in cc);
    }

    -- it is done
    pub served_done : left ≡ [] → new.world.input ≡ [] → length start.input ≤ SCRIPT_BYTES_MAX → now.lines ≤ LINES_MAX → (Progress start new.world left shape pairs now → IsLeft wanted last number start new.world shape pairs) → IsServed wanted last number start shape pairs old new now (Ok stops.Done)
    served_done none read bytes few leaves = record {
      stop = finished reached new.world refl none read bytes few;
      fault = record { failed = λ _. failed_still reached new.world refl; memory = λ _ _. memory_still reached new.world refl };
      sound = λ id is. absurd (let both : Ok stops.Done ≡ Err (BadPage id) = is in cc);
      moments = goes.moments start shape pairs progress;
      leaves = λ _. leaves reached;
    }

-- before the first line
pub begins_here : (start now : World) (run : Run) → SameConsole start now → run.lines ≡ 0 → run.engine.order ≡ [] → Progress start now (script_of now.input) run.engine.store.shape (map_in run.engine now) run
begins_here start now run same none order =
    subst (λ (i : List ℕ). Progress start now (script_of i) run.engine.store.shape (map_in run.engine now) run) (sym same.input) (begins start now run same none order)

-- memory ran out before the first batch
pub served_unbegun : (wanted : Shape) (last number : ℕ) (start : World) (old : History) (run : Run) → IsHistory old → SameConsole start old.world → run.lines ≡ 0 → run.engine.order ≡ [] → CanRun wanted last number run.engine old.world
    → IsServed wanted last number start run.engine.store.shape (map_in run.engine old.world) old old run (Err (Memory Bytes))
served_unbegun wanted last number start old run sound same none order can =
    served_fault wanted last number start run.engine.store.shape (map_in run.engine old.world) old old (script_of old.world.input) run run (begins_here start old.world run same none order) [] (Memory Bytes)
    (idle_stops wanted last number (LINES_MAX + 2048) old old run (script_of old.world.input) can sound (idle_none old sound) [] (Memory Bytes) (λ id is. absurd (let both : Memory Bytes ≡ BadPage id = is in cc)))

-- ---- numbers

-- there are numbers for a batch
pub room_left : (last number : ℕ) (before now : Run) → now.lines ≤ LINES_MAX → StaysWithin last number (LINES_MAX + 2048) before.engine → TakesFor now.lines before.engine now.engine → StaysWithin last number 2048 now.engine
room_left last number before now few within takes =
    within_left last number now.lines 2048 before.engine now.engine (within_fewer last number (LINES_MAX + 2048) (now.lines + 2048) before.engine (omega (arith, few)) within) takes

-- there are numbers for a batch, and the engine is at rest
pub may_next : (wanted : Shape) (last number : ℕ) (old mid : History) (script left : List Line) (before now : Run) → CanRun wanted last number before.engine old.world → GoesOn {T = Unit {0}} wanted last number old mid script left before now (Ok tt)
    → now.lines ≤ LINES_MAX → TakesFor now.lines before.engine now.engine → MayRun wanted last number 2048 now.engine mid.world
may_next wanted last number old mid script left before now can goes few takes = record { stands = goes.rests; within = room_left last number before now few can.within takes }

-- what stands after, where there is nothing
pub append_right : (xs ys : List ℕ) → xs ++ ys ≡ [] → ys ≡ []
append_right xs [] none = refl
append_right xs (y ∷ ys) none = absurd (omega (arith, ap (λ (l : List ℕ). length l) none, length-append xs (y ∷ ys)))
