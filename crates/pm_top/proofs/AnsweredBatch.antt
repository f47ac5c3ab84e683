-- One batch of a run: the next lines are taken off the script, and done.
use Rattle.std.proofs.Common.{◌≡◌, ℕ, ◌+◌, ◌≤◌, List, [], ◌++◌, true, length, Result, Ok, Err, refl, ap, sym, ◌∙◌, subst, append_assoc, append-nil, length-append, arith}
use Rattle.pm_types.specs.declared.fault.StoreFault.{StoreFault}
use Rattle.pm_types.specs.declared.fault.StoreFault.TheVariants.{BadPage, Memory}
use Rattle.pm_types.specs.declared.fault.Lack.TheVariants.{Bytes}
use Rattle.pm_types.specs.declared.page_id.PageId.{PageId}
use Rattle.pm_types.specs.declared.shape.Shape.{Shape}
use Rattle.pm_disk.specs.Worlds.{World}
use Rattle.pm_disk.specs.Moments.{History, IsHistory, AllMoments}
use Rattle.pm_disk.proofs.Chain.{at_last, started, weaker, joined}
use Rattle.pm_model.specs.Eval.{Pairs}
use Rattle.pm_model.specs.declared.line.Line.{Line}
use Rattle.pm_script.specs.Reading.{OnlyTakes}
use Rattle.pm_engine.specs.Engines.{map_in}
use Rattle.pm_engine.specs.FrameOpenings.{IsReadyOver}
use Rattle.pm_engine.specs.FrameStores.{pages_in_frames}
use Rattle.pm_engine.specs.RunningLines.{SameDisk}
use Rattle.pm_top.specs.declared.run.Run.{Run}
use Rattle.pm_top.specs.ScriptOrder.{CrashHoldsAcknowledged}
use Rattle.pm_top.specs.Runs.{AnswersLines, GoesOn, KeepsOrder, MayRun, Progress, TakesFor}
use Rattle.pm_top.proofs.AnsweredLines.{err_same, rest_crash, takes_both, takes_none, within_fewer, within_left}
use Rattle.pm_top.proofs.FrameRests.{rest_beside, same_both, same_engine, same_taken}
use Rattle.pm_top.proofs.KeptConfigs.{answers_none, answers_then}
use Rattle.pm_top.proofs.Lasting.{keeps_beside, keeps_rest, order_longer}
use Rattle.pm_top.proofs.MetLines.{LinesMeet, both_meet, fault_met, first_meet, none_met}
use Rattle.pm_top.proofs.Progressing.{failed_still, memory_still, progress_still}

-- ---- orders

pub order_same : (run : Run) → KeepsOrder run run
order_same run = record { more = []; order = sym (append-nil run.engine.order) }

pub keeps_both : (before mid later : Run) → KeepsOrder before mid → KeepsOrder mid later → KeepsOrder before later
keeps_both before mid later first second = record {
  more = first.more ++ second.more;
  order = second.order ∙ ap (λ o. o ++ second.more) first.order ∙ append_assoc before.engine.order first.more second.more;
}

-- a longer order
pub longer_moments : (wanted : Shape) (last number : ℕ) (start : World) (shape : Shape) (pairs : Pairs) (old new : History) (order more later : List ℕ) → later ≡ order ++ more
    → AllMoments old new (CrashHoldsAcknowledged wanted last number start shape pairs order) → AllMoments old new (CrashHoldsAcknowledged wanted last number start shape pairs later)
longer_moments wanted last number start shape pairs old new order more later is all =
    weaker old new (CrashHoldsAcknowledged wanted last number start shape pairs order) (CrashHoldsAcknowledged wanted last number start shape pairs later)
    (λ w keeps. subst (λ o. CrashHoldsAcknowledged wanted last number start shape pairs o w) (sym is) (order_longer wanted last number start shape pairs order more w keeps)) all

-- one run of calls after another, the order longer after it
pub then_moments : (wanted : Shape) (last number : ℕ) (start : World) (shape : Shape) (pairs : Pairs) (old mid new : History) (order more later : List ℕ) → later ≡ order ++ more
    → AllMoments old mid (CrashHoldsAcknowledged wanted last number start shape pairs order) → AllMoments mid new (CrashHoldsAcknowledged wanted last number start shape pairs later)
    → AllMoments old new (CrashHoldsAcknowledged wanted last number start shape pairs later)
then_moments wanted last number start shape pairs old mid new order more later is first second =
    joined old mid new (CrashHoldsAcknowledged wanted last number start shape pairs later) (longer_moments wanted last number start shape pairs old mid order more later is first) second

-- ---- while no line is done

-- nothing was said, and the disk is the same
pub record IsIdle (old now : World) : Type 0 where
  pub disk : SameDisk old now
  pub said : now.said ≡ old.said

pub idle_none : (h : History) → IsHistory h → AllMoments h h (IsIdle h.world)
idle_none h sound = started h (IsIdle h.world) sound (record { disk = record { log = refl; pages = refl; starts = refl; ends = refl }; said = refl })

pub idle_taken : (old new : History) → AllMoments old new (OnlyTakes old.world) → AllMoments old new (IsIdle old.world)
idle_taken old new takes = weaker old new (OnlyTakes old.world) (IsIdle old.world) (λ w is. record { disk = same_taken old.world w is; said = ap (λ (v : World). v.said) is.1 }) takes

module _ (wanted : Shape) (last number lines : ℕ) (old mid : History) (run : Run) (script : List Line) (can : MayRun wanted last number lines run.engine old.world)
    (sound : IsHistory mid) (idle : AllMoments old mid (IsIdle old.world)) where
  idle_moments : (start : World) (shape : Shape) (pairs : Pairs) → Progress start old.world script shape pairs run → AllMoments old mid (CrashHoldsAcknowledged wanted last number start shape pairs run.engine.order)
  idle_moments start shape pairs progress =
      weaker old mid (IsIdle old.world) (CrashHoldsAcknowledged wanted last number start shape pairs run.engine.order)
      (λ w is. keeps_rest progress wanted last number w is.said
      (keeps_beside wanted last number run.engine.store.shape (map_in run.engine old.world) [] old.world w is.disk (rest_crash wanted last number lines run.engine old.world can.within can.stands))) idle

  here : IsIdle old.world mid.world
  here = at_last old mid (IsIdle old.world) sound idle

  pub idle_goes : GoesOn {T = Unit {0}} wanted last number old mid script script run run (Ok tt)
  idle_goes = record {
    order = order_same run;
    sound = λ id is. absurd (let both : Ok tt ≡ Err (BadPage id) = is in cc);
    rests = rest_beside wanted run.engine old.world mid.world can.stands here.disk;
    answered = λ start shape pairs progress. record {
      done = progress_still progress mid.world here.disk here.said;
      fault = record { failed = λ _. failed_still progress mid.world here.said; memory = λ _ _. memory_still progress mid.world here.said };
    };
    moments = idle_moments;
  }

  pub idle_stops : (left : List Line) (fault : StoreFault) → ((id : PageId) → fault ≡ BadPage id → ⊥) → GoesOn {T = Unit {0}} wanted last number old mid script left run run (Err fault)
  idle_stops left fault plain = record {
    order = order_same run;
    sound = λ id is. plain id (err_same fault _ _ refl is);
    rests = tt;
    answered = λ start shape pairs progress. record {
      done = tt;
      fault = record { failed = λ _. failed_still progress mid.world here.said; memory = λ _ _. memory_still progress mid.world here.said };
    };
    moments = idle_moments;
  }

-- ---- one step after another

pub goes_then : {T : Type 0} (wanted : Shape) (last number : ℕ) (old mid new : History) (script rest left : List Line) (before at now : Run) (result : Result T StoreFault)
    → GoesOn {T = Unit {0}} wanted last number old mid script rest before at (Ok tt) → GoesOn wanted last number mid new rest left at now result → GoesOn wanted last number old new script left before now result
goes_then wanted last number old mid new script rest left before at now result first second = record {
  order = keeps_both before at now first.order second.order;
  sound = second.sound;
  rests = second.rests;
  answered = λ start shape pairs progress. second.answered start shape pairs (first.answered start shape pairs progress).done;
  moments = λ start shape pairs progress.
      then_moments wanted last number start shape pairs old mid new at.engine.order second.order.more now.engine.order second.order.order (first.moments start shape pairs progress)
      (second.moments start shape pairs (first.answered start shape pairs progress).done);
}

-- after a fault it doesn't matter what would be left
pub stops_anywhere : (wanted : Shape) (last number : ℕ) (old new : History) (script left other : List Line) (before now : Run) (fault : StoreFault)
    → GoesOn {T = Unit {0}} wanted last number old new script left before now (Err fault) → GoesOn {T = Unit {0}} wanted last number old new script other before now (Err fault)
stops_anywhere wanted last number old new script left other before now fault goes = record {
  order = goes.order;
  sound = goes.sound;
  rests = tt;
  answered = λ start shape pairs progress. record { done = tt; fault = (goes.answered start shape pairs progress).fault };
  moments = goes.moments;
}

-- ---- lines that are answered

-- there are none
pub no_lines : (tells : Type 0) (old : History) (lines : List Line) (run : Run) → (tells → IsHistory old) → run.engine.store.is_open ≡ true → lines ≡ [] → (tells → IsReadyOver run.engine old.world)
    → AnswersLines tells old old lines run run (Ok tt)
no_lines tells old lines run sound is_open none ready =
    subst (λ (ls : List Line). AnswersLines tells old old ls run run (Ok tt)) (sym none)
    (record {
      keeps = same_engine run.engine;
      counts = record { counted = omega arith; is_open = is_open; numbers = takes_none run.engine };
      ready = ready;
      only_answers = λ t. answers_none old (sound t);
      meets = λ t. none_met run.engine.store.shape [] (pages_in_frames run.engine.store old.world) (Ok tt) (λ id is. absurd (let both : Ok tt ≡ Err (BadPage id) = is in cc));
      goes = λ t wanted last number can left. idle_goes wanted last number 0 old old run left can (sound t) (idle_none old (sound t));
    })

-- memory ran out before the first
pub lines_unbegun : (tells : Type 0) (old : History) (lines : List Line) (run : Run) → (tells → IsHistory old) → AnswersLines tells old old lines run run (Err (Memory Bytes))
lines_unbegun tells old lines run sound = record {
  keeps = same_engine run.engine;
  counts = tt;
  ready = λ t. tt;
  only_answers = λ t. answers_none old (sound t);
  meets = λ t. fault_met run.engine.store.shape lines (pages_in_frames run.engine.store old.world) (pages_in_frames run.engine.store old.world) (Memory Bytes) (λ id is. absurd cc);
  goes = λ t wanted last number can left. idle_stops wanted last number (length lines) old old run (lines ++ left) can (sound t) (idle_none old (sound t)) left (Memory Bytes) (λ id is. absurd cc);
}

-- there are numbers for the first ones
first_may : (wanted : Shape) (last number : ℕ) (xs ys : List Line) (run : Run) (world : World) → MayRun wanted last number (length (xs ++ ys)) run.engine world → MayRun wanted last number (length xs) run.engine world
first_may wanted last number xs ys run world can = record {
  stands = can.stands;
  within = within_fewer last number (length (xs ++ ys)) (length xs) run.engine (omega (arith, length-append xs ys)) can.within;
}

module _ (tells : Type 0) (old mid : History) (xs ys : List Line) (before at : Run) where
  -- a fault came in the first ones
  pub first_stops : (fault : StoreFault) → AnswersLines tells old mid xs before at (Err fault) → AnswersLines tells old mid (xs ++ ys) before at (Err fault)
  first_stops fault first = record {
    keeps = first.keeps;
    counts = tt;
    ready = λ t. tt;
    only_answers = first.only_answers;
    meets = λ t. first_meet before.engine.store.shape xs ys (pages_in_frames before.engine.store old.world) (pages_in_frames at.engine.store mid.world) (Err fault) (first.meets t);
    goes = λ t wanted last number can left.
        subst (λ (ls : List Line). GoesOn {T = Unit {0}} wanted last number old mid ls left before at (Err fault)) (sym (append_assoc xs ys left))
        (stops_anywhere wanted last number old mid (xs ++ (ys ++ left)) (ys ++ left) left before at fault (first.goes t wanted last number (first_may wanted last number xs ys before old.world can) (ys ++ left)));
  }

  module _ (new : History) (now : Run) (sound : tells → IsHistory mid) (first : AnswersLines tells old mid xs before at (Ok tt)) where
    then_may : (wanted : Shape) (last number : ℕ) → GoesOn {T = Unit {0}} wanted last number old mid (xs ++ []) [] before at (Ok tt) → MayRun wanted last number (length (xs ++ ys)) before.engine old.world → MayRun wanted last number (length ys) at.engine mid.world
    then_may wanted last number goes can = record {
      stands = goes.rests;
      within = within_left last number (length xs) (length ys) before.engine at.engine
          (within_fewer last number (length (xs ++ ys)) (length xs + length ys) before.engine (omega (arith, length-append xs ys)) can.within) first.counts.numbers;
    }

    both_go : (result : Result (Unit {0}) StoreFault) → AnswersLines tells mid new ys at now result → tells → (wanted : Shape) (last number : ℕ) → MayRun wanted last number (length (xs ++ ys)) before.engine old.world → (left : List Line)
        → GoesOn wanted last number old new ((xs ++ ys) ++ left) left before now result
    both_go result second t wanted last number can left =
        let may = first_may wanted last number xs ys before old.world can in
        let since = then_may wanted last number (first.goes t wanted last number may []) can in
        subst (λ (ls : List Line). GoesOn wanted last number old new ls left before now result) (sym (append_assoc xs ys left))
        (goes_then wanted last number old mid new (xs ++ (ys ++ left)) (ys ++ left) left before at now result (first.goes t wanted last number may (ys ++ left)) (second.goes t wanted last number since left))

    both_met : (result : Result (Unit {0}) StoreFault) → AnswersLines tells mid new ys at now result → tells
        → LinesMeet before.engine.store.shape (xs ++ ys) (pages_in_frames before.engine.store old.world) (pages_in_frames now.engine.store new.world) result
    both_met result second t =
        both_meet before.engine.store.shape at.engine.store.shape xs ys (pages_in_frames before.engine.store old.world) (pages_in_frames at.engine.store mid.world) (pages_in_frames now.engine.store new.world) result first.keeps.shape (first.meets t) (second.meets t)

    -- the others were answered too
    pub both_answered : AnswersLines tells mid new ys at now (Ok tt) → AnswersLines tells old new (xs ++ ys) before now (Ok tt)
    both_answered second = record {
      keeps = same_both before.engine at.engine now.engine first.keeps second.keeps;
      counts = record {
        counted = omega (arith, first.counts.counted, second.counts.counted, length-append xs ys);
        is_open = second.counts.is_open;
        numbers = subst (λ (n : ℕ). TakesFor n before.engine now.engine) (sym (length-append xs ys)) (takes_both (length xs) (length ys) before.engine at.engine now.engine first.counts.numbers second.counts.numbers);
      };
      ready = second.ready;
      only_answers = λ t. answers_then old mid new (sound t) (first.only_answers t) (second.only_answers t);
      meets = both_met (Ok tt) second;
      goes = both_go (Ok tt) second;
    }

    -- a fault came in the others
    pub second_stops : (fault : StoreFault) → AnswersLines tells mid new ys at now (Err fault) → AnswersLines tells old new (xs ++ ys) before now (Err fault)
    second_stops fault second = record {
      keeps = same_both before.engine at.engine now.engine first.keeps second.keeps;
      counts = tt;
      ready = λ t. tt;
      only_answers = λ t. answers_then old mid new (sound t) (first.only_answers t) (second.only_answers t);
      meets = both_met (Err fault) second;
      goes = both_go (Err fault) second;
    }

    pub both_or_second : (result : Result (Unit {0}) StoreFault) → AnswersLines tells mid new ys at now result → AnswersLines tells old new (xs ++ ys) before now result
    both_or_second (Ok tt) second = both_answered second
    both_or_second (Err fault) second = second_stops fault second

-- ---- lines that were taken off the script, and answered

pub taken_goes : (tells : Type 0) (wanted : Shape) (last number : ℕ) (old mid new : History) (run now : Run) (script lines left : List Line) → script ≡ lines ++ left → length lines ≤ 2048 → IsHistory mid → AllMoments old mid (OnlyTakes old.world)
    → (result : Result (Unit {0}) StoreFault) → AnswersLines tells mid new lines run now result → tells → MayRun wanted last number 2048 run.engine old.world → GoesOn wanted last number old new script left run now result
taken_goes tells wanted last number old mid new run now script lines left parted few sound takes result answers t can =
    let idle = idle_taken old mid takes in
    let first = idle_goes wanted last number 2048 old mid run script can sound idle in
    let may : MayRun wanted last number (length lines) run.engine mid.world = record { stands = first.rests; within = within_fewer last number 2048 (length lines) run.engine few can.within } in
    goes_then wanted last number old mid new script script left run run now result first
    (subst (λ (ls : List Line). GoesOn wanted last number mid new ls left run now result) (sym parted) (answers.goes t wanted last number may left))

-- where no fault came
pub answered_lines : {tells : Type 0} {old new : History} {lines : List Line} {before now : Run} (result : Result (Unit {0}) StoreFault) → result ≡ Ok tt → AnswersLines tells old new lines before now result → AnswersLines tells old new lines before now (Ok tt)
answered_lines {tells} {old} {new} {lines} {before} {now} result is answers = subst (λ (r : Result (Unit {0}) StoreFault). AnswersLines tells old new lines before now r) is answers
