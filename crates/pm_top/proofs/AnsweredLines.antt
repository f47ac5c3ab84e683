-- How a batch is answered: what was said, and what a crash leaves meanwhile.
use Rattle.std.proofs.Common.{◌≡◌, inl, inr, ℕ, ◌+◌, ◌*◌, ◌≤◌, List, [], ◌++◌, length, take, Result, Ok, Err, ap, sym, ◌∙◌, subst, arith}
use Rattle.std.specs.Prelude.{IsErrOf}
use Rattle.std.proofs.lemmas.List.{take_all}
use Rattle.pm_types.specs.declared.fault.StoreFault.{StoreFault}
use Rattle.pm_types.specs.declared.fault.StoreFault.TheVariants.{BadPage}
use Rattle.pm_types.specs.declared.page_id.PageId.{PageId}
use Rattle.pm_types.specs.declared.limits.TheConstants.{BATCH_LINES_MAX}
use Rattle.pm_types.specs.declared.shape.Shape.{Shape}
use Rattle.pm_disk.specs.Worlds.{World, with_said}
use Rattle.pm_disk.specs.Moments.{History, IsHistory, AllMoments, Says}
use Rattle.pm_disk.proofs.Chain.{at_last, says, weaker}
use Rattle.pm_model.specs.declared.line.Line.{Line}
use Rattle.pm_model.specs.Eval.{Pairs, replies_to, after_all, accepted}
use Rattle.pm_model.specs.ReplyLists.{ReplyList}
use Rattle.pm_script.specs.Texts.{texts_of}
use Rattle.pm_core.specs.Calls.{ChangesDisk}
use Rattle.pm_core.specs.Held.{pairs_in}
use Rattle.pm_engine.specs.FrameBatches.{HasNumbersIn, LeavesAllAtRest, MayGoOn, RunsFrameBatch, TakesNumbersIn}
use Rattle.pm_engine.specs.Engines.{FrameRunning, map_in}
use Rattle.pm_engine.specs.FrameRounds.{EvaluatesLines}
use Rattle.pm_engine.specs.FrameStores.{pages_in_frames}
use Rattle.pm_engine.specs.RunningStores.{number_of}
use Rattle.pm_engine.specs.RunningLines.{says_nothing}
use Rattle.pm_engine.proofs.RunningLines.{crash_further}
use Rattle.pm_top.specs.FrameRests.{FrameAtRest}
use Rattle.pm_top.specs.declared.run.Run.{Run}
use Rattle.pm_top.specs.Crashes.{CrashKeeps}
use Rattle.pm_top.specs.ScriptOrder.{CrashHoldsAcknowledged}
use Rattle.pm_top.specs.ScriptOrder.{HasFailed, HasNoMemory}
use Rattle.pm_top.specs.Runs.{GoesOn, MayRun, Progress, StaysWithin, TakesFor}
use Rattle.pm_top.proofs.FrameRests.{rest_beside, rest_keeps, rest_of_last, same_said}
use Rattle.pm_top.proofs.Lasting.{keeps_doing, keeps_saying, keeps_said}
use Rattle.pm_top.proofs.Progressing.{failed_unsaid, memory_unsaid}

-- two promises at once
pub both : (old new : History) (P Q : World → Type 0) → AllMoments old new P → AllMoments old new Q → AllMoments old new (λ w. P w × Q w)
both old new P Q one other = record {
  later = one.later;
  each = λ w now. (one.each w now, other.each w now);
  before = λ t w le now. elim (one.before t w le now) [
    | inl was ↦ inl was
    | inr p ↦ elim (other.before t w le now) [ inl was ↦ inl was | inr q ↦ inr (p, q) ]
  ];
}

-- a fault is one fault
pub err_same : {T : Type 0} (a b : StoreFault) (result : Result T StoreFault) → result ≡ Err a → result ≡ Err b → a ≡ b
err_same a b result one other = cc

-- ---- numbers

-- there are numbers for a batch of so many lines
pub batch_numbers : (last number : ℕ) (engine : FrameRunning) (lines : ℕ) → 1 ≤ lines → StaysWithin last number lines engine → HasNumbersIn engine (34 * lines + 1) (lines + 1)
batch_numbers last number engine lines some within = record {
  in_log = omega (arith, some, within.segments, within.last_fits);
  in_marks = omega (arith, some, within.checkpoints, within.number_fits);
}

-- a batch takes no more of them
pub batch_takes : (lines : ℕ) (before now : FrameRunning) → 1 ≤ lines → TakesNumbersIn before now (34 * lines + 1) (lines + 1) → TakesFor lines before now
batch_takes lines before now some takes = record {
  in_log = omega (arith, some, takes.in_log);
  in_marks = omega (arith, some, takes.in_marks);
  risen = λ few. takes.risen (omega (arith, some, few));
}

pub takes_none : (engine : FrameRunning) → TakesFor 0 engine engine
takes_none engine = record { in_log = omega arith; in_marks = omega arith; risen = λ few. omega arith }

-- before the first line
pub no_numbers : (engine : FrameRunning) (lines : ℕ) → lines ≡ 0 → TakesFor lines engine engine
no_numbers engine lines none = subst (λ (n : ℕ). TakesFor n engine engine) (sym none) (takes_none engine)

-- some lines and then others
pub takes_both : (a b : ℕ) (before mid now : FrameRunning) → TakesFor a before mid → TakesFor b mid now → TakesFor (a + b) before now
takes_both a b before mid now one two = record {
  in_log = omega (arith, one.in_log, two.in_log);
  in_marks = omega (arith, one.in_marks, two.in_marks);
  risen = λ few.
      let first : number_of before.ckpt.mark ≤ number_of mid.ckpt.mark = one.risen (omega (arith, few)) in
      let second : number_of mid.ckpt.mark ≤ number_of now.ckpt.mark = two.risen (omega (arith, few, one.in_marks)) in
      omega (arith, first, second);
}

-- what is left of them
pub within_left : (last number a b : ℕ) (before now : FrameRunning) → StaysWithin last number (a + b) before → TakesFor a before now → StaysWithin last number b now
within_left last number a b before now within takes = record {
  segments = omega (arith, within.segments, takes.in_log);
  checkpoints = omega (arith, within.checkpoints, takes.in_marks);
  last_fits = within.last_fits;
  number_fits = within.number_fits;
}

pub within_fewer : (last number more few : ℕ) (engine : FrameRunning) → few ≤ more → StaysWithin last number more engine → StaysWithin last number few engine
within_fewer last number more few engine le within = record {
  segments = omega (arith, le, within.segments);
  checkpoints = omega (arith, le, within.checkpoints);
  last_fits = within.last_fits;
  number_fits = within.number_fits;
}

-- ---- an engine at rest

-- while more is said
pub said_stands : (wanted : Shape) (engine : FrameRunning) (world : World) (bytes : List ℕ) → FrameAtRest wanted engine world → FrameAtRest wanted engine (with_said bytes world)
said_stands wanted engine world bytes rest = rest_beside wanted engine world (with_said bytes world) rest (same_said bytes world)

-- a crash leaves its map
pub rest_crash : (wanted : Shape) (last number lines : ℕ) (engine : FrameRunning) (world : World) → StaysWithin last number lines engine → FrameAtRest wanted engine world
    → CrashKeeps wanted last number engine.store.shape (map_in engine world) [] world
rest_crash wanted last number lines engine world within rest =
    crash_further (engine.log.end.seg + 1) (number_of engine.ckpt.mark) last number wanted engine.store.shape (map_in engine world) [] world (omega (arith, within.segments)) (omega (arith, within.checkpoints)) (rest_keeps wanted engine world rest)

-- where an engine is at rest, and there are numbers for a batch, it may run it
pub may_go_on : (wanted : Shape) (last number lines : ℕ) (engine : FrameRunning) (world : World) → 1 ≤ lines → MayRun wanted last number lines engine world
    → MayGoOn engine world (34 * lines + 1) (lines + 1)
may_go_on wanted last number lines engine world some can = record {
  wanted = wanted;
  told = says_nothing;
  from = can.stands.from;
  start = map_in engine world;
  lines = [];
  has = can.stands.has;
  numbers = batch_numbers last number engine lines some can.within;
}

-- ---- a batch

module _ {tells : Type 0} {old mid : History} (run : Run) {later : FrameRunning} {lines : List Line} {was replies : ReplyList} {result : Result (Unit {0}) StoreFault}
    (tries : RunsFrameBatch tells old mid (run.lines + 1) lines (34 * length lines + 1) (length lines + 1) run.engine later was replies result) (t : tells)
    {wanted : Shape} {last number : ℕ} (some : 1 ≤ length lines) (few : length lines ≤ BATCH_LINES_MAX) (can : MayRun wanted last number (length lines) run.engine old.world) where
  may : MayGoOn run.engine old.world (34 * length lines + 1) (length lines + 1)
  may = may_go_on wanted last number (length lines) run.engine old.world some can

  pub batch_order : later.order ≡ run.engine.order ++ accepted run.engine.store.shape (run.lines + 1) (take tries.tried lines) (map_in run.engine old.world)
  batch_order = tries.order t may

  pub batch_sound : (id : PageId) → IsErrOf result (BadPage id) → ⊥
  batch_sound id is = tries.sound t may id is

  only : IsHistory mid → ChangesDisk old.world mid.world
  only sound = at_last old mid (ChangesDisk old.world) sound (tries.disk t)

  module _ {start : World} {shape : Shape} {pairs : Pairs} (left : List Line) (progress : Progress start old.world (lines ++ left) shape pairs run) where
    -- a fault came while the batch was done
    pub failed_batch : IsHistory mid → HasFailed start mid.world shape pairs run.lines later.order
    failed_batch sound = failed_unsaid lines left progress mid.world tries.tried later.order few tries.within (only sound).said batch_order

    pub memory_batch : IsHistory mid → HasNoMemory start mid.world shape pairs run.lines later.order
    memory_batch sound = memory_unsaid lines left progress mid.world tries.tried later.order few tries.within (only sound).said batch_order

    -- what a crash left meanwhile
    pub batch_moments : AllMoments old mid (CrashHoldsAcknowledged wanted last number start shape pairs later.order)
    batch_moments =
        let n = length lines in
        let engine = run.engine in
        let map = map_in engine old.world in
        let Q : World → Type 0 = CrashKeeps wanted last number engine.store.shape map (take tries.tried lines) in
        let crash = tries.crash t wanted says_nothing can.stands.from map [] can.stands.has (batch_numbers last number engine n some can.within) in
        let bounded : AllMoments old mid Q = weaker old mid (CrashKeeps wanted (engine.log.end.seg + (34 * n + 1 + 1)) (number_of engine.ckpt.mark + (n + 1)) engine.store.shape map (take tries.tried lines)) Q
        (λ w keeps. crash_further (engine.log.end.seg + (34 * n + 1 + 1)) (number_of engine.ckpt.mark + (n + 1)) last number wanted engine.store.shape map (take tries.tried lines) w
        (omega (arith, some, can.within.segments)) (omega (arith, some, can.within.checkpoints)) keeps) crash in
        weaker old mid (λ w. Q w × ChangesDisk old.world w) (CrashHoldsAcknowledged wanted last number start shape pairs later.order)
        (λ w is. keeps_doing lines left progress tries.tried tries.within later.order batch_order wanted last number w is.1.said is.0) (both old mid Q (ChangesDisk old.world) bounded (tries.disk t))

-- ---- a batch that came to a fault

module _ {tells : Type 0} {old mid : History} (run : Run) {later : FrameRunning} {lines : List Line} {was replies : ReplyList} (fault : StoreFault)
    (tries : RunsFrameBatch tells old mid (run.lines + 1) lines (34 * length lines + 1) (length lines + 1) run.engine later was replies (Err fault)) (t : tells)
    (wanted : Shape) (last number : ℕ) (some : 1 ≤ length lines) (few : length lines ≤ BATCH_LINES_MAX) (can : MayRun wanted last number (length lines) run.engine old.world) (sound : IsHistory mid) (left : List Line) where
  pub fault_goes : GoesOn {T = Unit {0}} wanted last number old mid (lines ++ left) left run (record run { engine = later }) (Err fault)
  fault_goes = record {
    order = record { more = accepted run.engine.store.shape (run.lines + 1) (take tries.tried lines) (map_in run.engine old.world); order = batch_order run tries t some few can };
    sound = batch_sound run tries t some few can;
    rests = tt;
    answered = λ start shape pairs progress. record {
      done = tt;
      fault = record { failed = λ _. failed_batch run tries t some few can left progress sound; memory = λ _ _. memory_batch run tries t some few can left progress sound };
    };
    moments = λ start shape pairs progress. batch_moments run tries t some few can left progress;
  }

-- ---- a batch that was done, and whose replies are said

module _ {tells : Type 0} {old mid : History} (run : Run) {later : FrameRunning} {lines : List Line} {was replies : ReplyList}
    (tries : RunsFrameBatch tells old mid (run.lines + 1) lines (34 * length lines + 1) (length lines + 1) run.engine later was replies (Ok tt)) (t : tells)
    (wanted : Shape) (last number : ℕ) (some : 1 ≤ length lines) (few : length lines ≤ BATCH_LINES_MAX) (can : MayRun wanted last number (length lines) run.engine old.world) (sound : IsHistory mid) where
  whole : take tries.tried lines ≡ lines
  whole = ap (λ n. take n lines) tries.all ∙ take_all (length lines) lines (omega arith)

  pub all_order : later.order ≡ run.engine.order ++ accepted run.engine.store.shape (run.lines + 1) lines (map_in run.engine old.world)
  all_order = batch_order run tries t some few can ∙ ap (λ ls. run.engine.order ++ accepted run.engine.store.shape (run.lines + 1) ls (map_in run.engine old.world)) whole

  evaluated : EvaluatesLines run.engine.store.shape (take tries.tried lines) (pages_in_frames run.engine.store old.world) (pages_in_frames later.store mid.world) was replies
  evaluated = tries.evaluates t tt (may_go_on wanted last number (length lines) run.engine old.world some can)

  pub same_shape : later.store.shape ≡ run.engine.store.shape
  same_shape = tries.same.shape

  pub all_map : map_in later mid.world ≡ after_all run.engine.store.shape lines (map_in run.engine old.world)
  all_map =
      ap (λ (s : Shape). pairs_in s.partitions (pages_in_frames later.store mid.world)) same_shape ∙ evaluated.map
      ∙ ap (λ ls. after_all run.engine.store.shape ls (map_in run.engine old.world)) whole

  pub all_replies : was.replies ≡ [] → texts_of replies.replies ≡ texts_of (replies_to run.engine.store.shape lines (map_in run.engine old.world))
  all_replies none =
      ap texts_of (ap (λ (l : ReplyList). l.replies) evaluated.replied ∙ ap (λ rs. rs ++ replies_to run.engine.store.shape (take tries.tried lines) (map_in run.engine old.world)) none
      ∙ ap (λ ls. replies_to run.engine.store.shape ls (map_in run.engine old.world)) whole)

  module _ (rests : LeavesAllAtRest tells old mid (34 * length lines + 1) (length lines + 1) run.engine later (Ok tt)) where
    pub at_rest : FrameAtRest wanted later mid.world
    at_rest = rest_of_last wanted later mid.world (rests t wanted says_nothing can.stands.from (map_in run.engine old.world) [] can.stands.has (batch_numbers last number run.engine (length lines) some can.within))

    -- while the replies are said
    module _ (takes : TakesNumbersIn run.engine later (34 * length lines + 1) (length lines + 1)) {start : World} {shape : Shape} {pairs : Pairs} (left : List Line) (progress : Progress start old.world (lines ++ left) shape pairs run)
        {S F : Type 0} (new : History) (printed : Result S F) (text : List ℕ) (is : text ≡ texts_of (replies_to run.engine.store.shape lines (map_in run.engine old.world))) (call : Says {T = S} {E = F} mid new printed text) where
      pub saying_moments : AllMoments old new (CrashHoldsAcknowledged wanted last number start shape pairs later.order)
      saying_moments =
          let said = (at_last old mid (ChangesDisk old.world) sound (tries.disk t)).said in
          let left_over : StaysWithin last number 0 later = within_left last number (length lines) 0 run.engine later (within_fewer last number (length lines) (length lines + 0) run.engine (omega arith) can.within) (batch_takes (length lines) run.engine later some takes) in
          let after = after_all run.engine.store.shape lines (map_in run.engine old.world) in
          let keeps : CrashKeeps wanted last number run.engine.store.shape after [] mid.world =
          subst (λ (x : Shape × Pairs). CrashKeeps wanted last number x.0 x.1 [] mid.world) (λ i. (same_shape i, all_map i)) (rest_crash wanted last number 0 later mid.world left_over at_rest) in
          says old mid new printed text (CrashHoldsAcknowledged wanted last number start shape pairs later.order) (batch_moments run tries t some few can left progress) call
          (λ k le. keeps_saying lines left progress later.order all_order wanted last number (with_said (take k text) mid.world) k (ap (λ s. s ++ take k text) said ∙ ap (λ t. old.world.said ++ take k t) is)
          (keeps_said wanted last number run.engine.store.shape after [] (take k text) mid.world keeps))
