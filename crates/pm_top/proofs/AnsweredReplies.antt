-- A batch of a run: what is left of it once its replies are said, and where a fault came before that.
use Rattle.std.proofs.Common.{◌≡◌, ℕ, ◌+◌, ◌*◌, ◌≤◌, Bool, true, List, [], ◌++◌, length, take, Result, Ok, Err, refl, ap, sym, ◌∙◌, subst, arith}
use Rattle.std.specs.Prelude.{IfErr, IsErrOf, OnErr, OnOk}
use Rattle.std.proofs.lemmas.List.{take_all}
use Rattle.pm_types.specs.declared.fault.StoreFault.{StoreFault}
use Rattle.pm_types.specs.declared.fault.StoreFault.TheVariants.{BadPage, Memory}
use Rattle.pm_types.specs.declared.fault.Lack.{Lack}
use Rattle.pm_types.specs.declared.limits.TheConstants.{BATCH_LINES_MAX}
use Rattle.pm_types.specs.declared.shape.Shape.{Shape}
use Rattle.pm_disk.specs.Worlds.{World, with_said}
use Rattle.pm_disk.specs.Moments.{History, IsHistory, AllMoments, Says}
use Rattle.pm_disk.proofs.Chain.{at_last}
use Rattle.pm_model.specs.declared.line.Line.{Line}
use Rattle.pm_model.specs.Eval.{Pairs, replies_to, accepted}
use Rattle.pm_model.specs.ReplyLists.{ReplyList}
use Rattle.pm_script.specs.Texts.{texts_of}
use Rattle.pm_core.specs.BasePages.{Partitions}
use Rattle.pm_core.specs.Calls.{ChangesDisk}
use Rattle.pm_engine.specs.Batches.{IsPlainFault}
use Rattle.pm_engine.specs.FrameBatches.{EndsAtReplayIn, LeavesAllAtRest, MakesAskedIn, RunsFrameBatch, TakesNumbersIn}
use Rattle.pm_engine.specs.Engines.{FrameRunning, IsSameEngine, map_in}
use Rattle.pm_engine.specs.FrameOpenings.{IsReadyOver}
use Rattle.pm_engine.specs.FrameStores.{pages_in_frames}
use Rattle.pm_engine.specs.Batches.{asked_last}
use Rattle.pm_engine.specs.RunningLines.{SameDisk}
use Rattle.pm_top.specs.FrameRests.{FrameAtRest}
use Rattle.pm_top.specs.declared.run.Run.{Run}
use Rattle.pm_top.specs.ScriptOrder.{CrashHoldsAcknowledged, HasFailed, HasNoMemory}
use Rattle.pm_top.specs.Runs.{AnswersLines, GoesOn, MayRun, Progress, TakesFor}
use Rattle.pm_top.proofs.AnsweredLines.{all_map, all_order, all_replies, at_rest, batch_takes, err_same, fault_goes, same_shape, said_stands, saying_moments}
use Rattle.pm_top.proofs.FrameRests.{ready_beside, same_said}
use Rattle.pm_top.proofs.KeptConfigs.{answers_disk, answers_said}
use Rattle.pm_top.proofs.MetLines.{LinesMeet, batch_meets, fault_met, pages_beside}
use Rattle.pm_top.proofs.Progressing.{failed_saying, failed_still, memory_still, memory_unsaid, progress_more}

-- a fault came in the batch
pub batch_stops : {tells : Type 0} {old mid : History} (run : Run) {later : FrameRunning} {lines : List Line} {was replies : ReplyList} (fault : StoreFault)
    → RunsFrameBatch tells old mid (run.lines + 1) lines (34 * length lines + 1) (length lines + 1) run.engine later was replies (Err fault)
    → (tells → IsHistory mid) → 1 ≤ length lines → length lines ≤ BATCH_LINES_MAX → AnswersLines tells old mid lines run (record run { engine = later }) (Err fault)
batch_stops {tells = tells} {old = old} {mid = mid} run {later = later} {lines = lines} fault tries sound some few = record {
  keeps = tries.same;
  counts = tt;
  ready = λ t. tt;
  only_answers = λ t. answers_disk old mid (tries.disk t);
  meets = λ t. batch_meets tells t run.engine.store.shape lines (pages_in_frames run.engine.store old.world) (pages_in_frames later.store mid.world) (Err fault) (tries.meets t);
  goes = λ t wanted last number can left. fault_goes run fault tries t wanted last number some few can (sound t) left;
}

module _ {tells : Type 0} {old mid : History} (run : Run) {later : FrameRunning} {lines : List Line} {was replies : ReplyList}
    (tries : RunsFrameBatch tells old mid (run.lines + 1) lines (34 * length lines + 1) (length lines + 1) run.engine later was replies (Ok tt))
    (sound : tells → IsHistory mid) (some : 1 ≤ length lines) (few : length lines ≤ BATCH_LINES_MAX) (none : was.replies ≡ [])
    (rests : LeavesAllAtRest tells old mid (34 * length lines + 1) (length lines + 1) run.engine later (Ok tt))
    (takes : TakesNumbersIn run.engine later (34 * length lines + 1) (length lines + 1))
    (now : Run) (engine_is : now.engine ≡ later) (new : History) where
  keeps : IsSameEngine run.engine now.engine
  keeps = subst (λ (e : FrameRunning). IsSameEngine run.engine e) (sym engine_is) tries.same

  module _ (t : tells) {wanted : Shape} {last number : ℕ} (can : MayRun wanted last number (length lines) run.engine old.world) where
    order_is : now.engine.order ≡ run.engine.order ++ accepted run.engine.store.shape (run.lines + 1) lines (map_in run.engine old.world)
    order_is = ap (λ (e : FrameRunning). e.order) engine_is ∙ all_order run tries t wanted last number some few can (sound t)

    said_unchanged : mid.world.said ≡ old.world.said
    said_unchanged = (at_last old mid (ChangesDisk old.world) (sound t) (tries.disk t)).said

    texts_are : texts_of replies.replies ≡ texts_of (replies_to run.engine.store.shape lines (map_in run.engine old.world))
    texts_are = all_replies run tries t wanted last number some few can (sound t) none

    -- what a crash leaves
    all_moments : {S F : Type 0} (printed : Result S F) → Says {T = S} {E = F} mid new printed (texts_of replies.replies) → (start : World) (shape : Shape) (pairs : Pairs) (left : List Line) → Progress start old.world (lines ++ left) shape pairs run
        → AllMoments old new (CrashHoldsAcknowledged wanted last number start shape pairs now.engine.order)
    all_moments printed call start shape pairs left progress =
        subst (λ (e : FrameRunning). AllMoments old new (CrashHoldsAcknowledged wanted last number start shape pairs e.order)) (sym engine_is)
        (saying_moments run tries t wanted last number some few can (sound t) rests takes left progress new printed (texts_of replies.replies) texts_are call)

  -- all was said
  module _ (lines_is : now.lines ≡ run.lines + length lines) (asked : MakesAskedIn run.engine later lines (length lines + 1))
      (call : tells → Says {T = Unit {0}} {E = StoreFault} mid new (Ok tt) (texts_of replies.replies)) where
    there : tells → new.world ≡ with_said (texts_of replies.replies) mid.world
    there t = (call t).ok

    ready_now : tells → IsReadyOver now.engine new.world
    ready_now t =
        let ready : IsReadyOver later mid.world = record { ends = tries.ends t tt; clean = tries.clean t tt } in
        let said : IsReadyOver later (with_said (texts_of replies.replies) mid.world) = ready_beside later mid.world (with_said (texts_of replies.replies) mid.world) ready (same_said (texts_of replies.replies) mid.world) in
        subst (λ (x : FrameRunning × World). IsReadyOver x.0 x.1) (λ i. (sym engine_is i, sym (there t) i)) said

    asked_now : (was : Bool) → (was ≡ true → EndsAtReplayIn run.engine) → asked_last was lines ≡ true → EndsAtReplayIn now.engine
    asked_now was before is = subst (λ (e : FrameRunning). EndsAtReplayIn e) (sym engine_is) (asked.last was before is)

    module _ (t : tells) (wanted : Shape) (last number : ℕ) (can : MayRun wanted last number (length lines) run.engine old.world) (left : List Line) where
      rests_now : FrameAtRest wanted now.engine new.world
      rests_now =
          subst (λ (x : FrameRunning × World). FrameAtRest wanted x.0 x.1) (λ i. (sym engine_is i, sym (there t) i))
          (said_stands wanted later mid.world (texts_of replies.replies) (at_rest run tries t wanted last number some few can (sound t) rests))

      map_now : map_in now.engine new.world ≡ map_in later mid.world
      map_now = ap (λ (e : FrameRunning). map_in e new.world) engine_is ∙ ap (λ (w : World). map_in later w) (there t)

      progress_now : (start : World) (shape : Shape) (pairs : Pairs) → Progress start old.world (lines ++ left) shape pairs run → Progress start new.world left shape pairs now
      progress_now start shape pairs progress =
          progress_more lines left progress new.world now
          (ap (λ (w : World). w.said) (there t) ∙ ap (λ (u : List ℕ). u ++ texts_of replies.replies) (said_unchanged t can) ∙ ap (λ x. old.world.said ++ x) (texts_are t can))
          lines_is (ap (λ (e : FrameRunning). e.store.shape) engine_is ∙ same_shape run tries t wanted last number some few can (sound t))
          (map_now ∙ all_map run tries t wanted last number some few can (sound t)) (order_is t can) asked_now

      said_goes : GoesOn {T = Unit {0}} wanted last number old new (lines ++ left) left run now (Ok tt)
      said_goes = record {
        order = record { more = accepted run.engine.store.shape (run.lines + 1) lines (map_in run.engine old.world); order = order_is t can };
        sound = λ id is. absurd (let both : Ok tt ≡ Err (BadPage id) = is in cc);
        rests = rests_now;
        answered = λ start shape pairs progress.
            let done = progress_now start shape pairs progress in
            record { done = done; fault = record { failed = λ _. failed_still done new.world refl; memory = λ _ _. memory_still done new.world refl } };
        moments = λ start shape pairs progress. all_moments t can {S = Unit {0}} {F = StoreFault} (Ok tt) (call t) start shape pairs left progress;
      }

    -- what is said leaves the pages as they are
    pages_now : tells → pages_in_frames now.engine.store new.world ≡ pages_in_frames later.store mid.world
    pages_now t = ap (λ (e : FrameRunning). pages_in_frames e.store new.world) engine_is ∙ pages_beside later mid.world new.world (subst (SameDisk mid.world) (sym (there t)) (same_said (texts_of replies.replies) mid.world))

    meets_now : tells → LinesMeet run.engine.store.shape lines (pages_in_frames run.engine.store old.world) (pages_in_frames now.engine.store new.world) (Ok tt)
    meets_now t =
        subst (λ (p : Partitions). LinesMeet run.engine.store.shape lines (pages_in_frames run.engine.store old.world) p (Ok tt)) (sym (pages_now t))
        (batch_meets tells t run.engine.store.shape lines (pages_in_frames run.engine.store old.world) (pages_in_frames later.store mid.world) (Ok tt) (tries.meets t))

    pub all_said : AnswersLines tells old new lines run now (Ok tt)
    all_said = record {
      keeps = keeps;
      counts = record {
        counted = lines_is;
        is_open = ap (λ (e : FrameRunning). e.store.is_open) engine_is ∙ tries.is_open tt;
        numbers = subst (λ (e : FrameRunning). TakesFor (length lines) run.engine e) (sym engine_is) (batch_takes (length lines) run.engine later some takes);
      };
      ready = ready_now;
      only_answers = λ t. answers_said old mid new (Ok tt) (texts_of replies.replies) (sound t) (answers_disk old mid (tries.disk t)) (call t);
      meets = meets_now;
      goes = said_goes;
    }

  -- a fault came while it was said, or before that
  module _ (fault : StoreFault) (plain : IsPlainFault fault) (lines_is : now.lines ≡ run.lines)
      (call : tells → Says {T = Unit {0}} {E = StoreFault} mid new (Err fault) (texts_of replies.replies)) (unsaid : tells → (lack : Lack) → fault ≡ Memory lack → new.world ≡ mid.world) where
    module _ (t : tells) {wanted : Shape} {last number : ℕ} (can : MayRun wanted last number (length lines) run.engine old.world) (left : List Line)
        (start : World) (shape : Shape) (pairs : Pairs) (progress : Progress start old.world (lines ++ left) shape pairs run) where
      failed : HasFailed start new.world shape pairs now.lines now.engine.order
      failed =
          let part = (call t).part in
          subst (λ (n : ℕ). HasFailed start new.world shape pairs n now.engine.order) (sym lines_is)
          (failed_saying lines left progress new.world part.0 now.engine.order few
          (ap (λ (w : World). w.said) part.2 ∙ ap (λ (u : List ℕ). u ++ take part.0 (texts_of replies.replies)) (said_unchanged t can) ∙ ap (λ x. old.world.said ++ take part.0 x) (texts_are t can))
          (order_is t can))

      memory : (lack : Lack) → fault ≡ Memory lack → HasNoMemory start new.world shape pairs now.lines now.engine.order
      memory lack is =
          subst (λ (n : ℕ). HasNoMemory start new.world shape pairs n now.engine.order) (sym lines_is)
          (memory_unsaid lines left progress new.world (length lines) now.engine.order few (omega arith)
          (ap (λ (w : World). w.said) (unsaid t lack is) ∙ said_unchanged t can)
          (order_is t can ∙ ap (λ ls. run.engine.order ++ accepted run.engine.store.shape (run.lines + 1) ls (map_in run.engine old.world)) (sym (take_all (length lines) lines (omega arith)))))

    unsaid_goes : tells → (wanted : Shape) (last number : ℕ) → MayRun wanted last number (length lines) run.engine old.world → (left : List Line)
        → GoesOn {T = Unit {0}} wanted last number old new (lines ++ left) left run now (Err fault)
    unsaid_goes t wanted last number can left = record {
      order = record { more = accepted run.engine.store.shape (run.lines + 1) lines (map_in run.engine old.world); order = order_is t can };
      sound = λ id is. subst IsPlainFault (err_same fault _ _ refl is) plain;
      rests = tt;
      answered = λ start shape pairs progress. record {
        done = tt;
        fault = record { failed = λ _. failed t can left start shape pairs progress; memory = λ lack is. memory t can left start shape pairs progress lack (err_same fault _ _ refl is) };
      };
      moments = λ start shape pairs progress. all_moments t can {S = Unit {0}} {F = StoreFault} (Err fault) (call t) start shape pairs left progress;
    }

    pub not_said : AnswersLines tells old new lines run now (Err fault)
    not_said = record {
      keeps = keeps;
      counts = tt;
      ready = λ t. tt;
      only_answers = λ t. answers_said old mid new (Err fault) (texts_of replies.replies) (sound t) (answers_disk old mid (tries.disk t)) (call t);
      meets = λ t. fault_met run.engine.store.shape lines (pages_in_frames run.engine.store old.world) (pages_in_frames now.engine.store new.world) fault (λ id is. subst IsPlainFault is plain);
      goes = unsaid_goes;
    }

  -- by how saying it ended
  pub said_or_not : MakesAskedIn run.engine later lines (length lines + 1) → (said : Result (Unit {0}) StoreFault) → OnOk said (now.lines ≡ run.lines + length lines) → OnErr said (now.lines ≡ run.lines)
      → (tells → Says mid new said (texts_of replies.replies)) → (tells → (lack : Lack) → IsErrOf said (Memory lack) → new.world ≡ mid.world) → IfErr said IsPlainFault → AnswersLines tells old new lines run now said
  said_or_not asked (Ok tt) counted uncounted call unsaid plain = all_said counted asked call
  said_or_not asked (Err fault) counted uncounted call unsaid plain = not_said fault plain uncounted call (λ t lack is. unsaid t lack (ap Err is))
