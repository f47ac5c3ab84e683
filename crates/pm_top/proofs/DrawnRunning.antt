-- How a run over drawn lines goes on batch after batch, and how it ends.
use Rattle.std.proofs.Common.{◌≡◌, ℕ, zero, suc, append-nil, ◌+◌, ◌*◌, ◌≤◌, List, [], ◌++◌, length, take, Result, refl, ap, sym, ◌∙◌, subst, arith, length-append}
use Rattle.std.specs.Prelude.{IsErrOf}
use Rattle.std.proofs.lemmas.List.{take_at, take_all, take-append-le}
use Rattle.std.proofs.Math.Seq.{take-append-add}
use Rattle.pm_types.specs.declared.fault.StoreFault.{StoreFault}
use Rattle.pm_types.specs.declared.fault.StoreFault.TheVariants.{BadPage}
use Rattle.pm_types.specs.declared.limits.TheConstants.{BATCH_LINES_MAX, LINES_MAX}
use Rattle.pm_types.specs.declared.page_id.PageId.{PageId}
use Rattle.pm_types.specs.declared.shape.Shape.{Shape}
use Rattle.pm_disk.specs.Moments.{History, IsHistory, AllMoments}
use Rattle.pm_disk.specs.Worlds.{World}
use Rattle.pm_disk.proofs.Chain.{at_last, joined, started, weaker}
use Rattle.pm_model.specs.declared.line.Line.{Line}
use Rattle.pm_model.specs.declared.reply.Reply.{Reply}
use Rattle.pm_model.specs.Eval.{Pairs, replies_to, after_all, accepted}
use Rattle.pm_model.specs.ReplyLists.{ReplyList}
use Rattle.pm_model.proofs.Runs.{replies_to-append, accepted-append, length-replies_to}
use Rattle.pm_core.specs.Calls.{ChangesDisk}
use Rattle.pm_engine.specs.FrameBatches.{HasNumbersIn, MayGoOn, RunsFrameBatch, TakesNumbersIn}
use Rattle.pm_engine.specs.Engines.{FrameRunning, HasDoneLines, map_in}
use Rattle.pm_engine.specs.Batches.{StaysOpen}
use Rattle.pm_engine.specs.RunningStores.{number_of}
use Rattle.pm_engine.specs.RunningLines.{CrashHoldsLines, says_nothing}
use Rattle.pm_engine.proofs.RunningLines.{crash_wider, moments_further}
use Rattle.pm_top.specs.Crashes.{CrashKeeps}
use Rattle.pm_top.specs.DrawnSteps.{IfCanRun, KeepsDrawn, HasRunDrawn, TriesDrawn}
use Rattle.pm_top.specs.ReplyCounts.{counts_of, no_counts, with_all}
use Rattle.pm_top.specs.Runs.{CanRun, StaysWithin, TakesFor}
use Rattle.pm_top.proofs.CountedReplies.{with_all-append}
use Rattle.pm_top.proofs.AnsweredLines.{batch_numbers, rest_crash, within_fewer, within_left}
use Rattle.pm_top.proofs.FrameRests.{same_both, same_engine}

changes_both : (a b c : World) → ChangesDisk a b → ChangesDisk b c → ChangesDisk a c
changes_both a b c first second = record {
  said = second.said ∙ first.said;
  input = second.input ∙ first.input;
  config = second.config ∙ first.config;
}

-- calls on the disk, one run after another
disk_then : (old mid new : History) → IsHistory mid → AllMoments old mid (ChangesDisk old.world) → AllMoments mid new (ChangesDisk mid.world) → AllMoments old new (ChangesDisk old.world)
disk_then old mid new sound first second =
    joined old mid new (ChangesDisk old.world) first
    (weaker mid new (ChangesDisk mid.world) (ChangesDisk old.world) (λ w is. changes_both old.world mid.world w (at_last old mid (ChangesDisk old.world) sound first) is) second)

-- before the first line
pub drawn_begins : (tells : Type 0) (old : History) (engine : FrameRunning) → (tells → IsHistory old) → engine.order ≡ [] → HasRunDrawn tells old old engine engine []
drawn_begins tells old engine sound none = record {
  keeps = record {
    disk = λ t. started old (ChangesDisk old.world) (sound t) (record { said = refl; input = refl; config = refl });
    crash = λ t wanted last number can.
        started old (CrashKeeps wanted last number engine.store.shape (map_in engine old.world) []) (sound t) (rest_crash wanted last number (LINES_MAX + 2048) engine old.world can.within can.stands);
  };
  same = same_engine engine;
  order = λ t wanted last number can. none;
  runs = λ t wanted last number can. can.stands.has;
}

-- no reply
abbrev pub no_reply : ReplyList
no_reply = record { replies = []; spare = 0 }

-- lines after which none were tried
no_line_more : (ls : List Line) (n : ℕ) → ls ++ take n [] ≡ ls
no_line_more ls n = ap (λ (more : List Line). ls ++ more) (take_none n) ∙ append-nil ls
  where
    take_none : (n : ℕ) → take {A = Line} n [] ≡ []
    take_none zero = refl
    take_none (suc n) = refl

-- there are numbers for the next lines
pub room_drawn : (last number many next : ℕ) (before now : FrameRunning) → many + next ≤ LINES_MAX + 2048 → StaysWithin last number (LINES_MAX + 2048) before → TakesFor many before now → StaysWithin last number next now
room_drawn last number many next before now few within takes = within_left last number many next before now (within_fewer last number (LINES_MAX + 2048) (many + next) before few within) takes

module _ {tells : Type 0} {old mid : History} {first engine : FrameRunning} {lines : List Line} (so_far : HasRunDrawn tells old mid first engine lines) where
  -- the map after these lines
  pub drawn_map : tells → (wanted : Shape) (last number : ℕ) → CanRun wanted last number first old.world → map_in engine mid.world ≡ after_all first.store.shape lines (map_in first old.world)
  drawn_map t wanted last number can =
      (so_far.runs t wanted last number can).has.map ∙ ap (λ (s : Shape). after_all s lines (map_in first old.world)) so_far.same.shape

  -- the run stops after these lines
  pub stops_drawn : (script rest : List Line) → script ≡ lines ++ rest → TriesDrawn tells old mid script first engine
  stops_drawn script rest is =
      let front : take (length lines) script ≡ lines = ap (take (length lines)) is ∙ take_at lines rest (length lines) refl in
      record {
        many = length lines;
        tried = length lines;
        from = omega arith;
        to = omega arith;
        within = omega (arith, ap (λ (l : List Line). length l) is, length-append lines rest);
        order = λ t wanted last number can. so_far.order t wanted last number can ∙ ap (λ ls. accepted first.store.shape 1 ls (map_in first old.world)) (sym front);
        keeps = subst (KeepsDrawn tells old mid first) (sym front) so_far.keeps;
      }

  -- the replies are counted with those to more lines
  pub counts_more : tells → (wanted : Shape) (last number : ℕ) → CanRun wanted last number first old.world → (more : List Line)
      → with_all (counts_of (replies_to first.store.shape lines (map_in first old.world))) (replies_to engine.store.shape more (map_in engine mid.world)) ≡ counts_of (replies_to first.store.shape (lines ++ more) (map_in first old.world))
  counts_more t wanted last number can more =
      let shape = first.store.shape in
      let pairs = map_in first old.world in
      ap (λ (x : Shape × Pairs). with_all (counts_of (replies_to shape lines pairs)) (replies_to x.0 more x.1)) (λ i. (so_far.same.shape i, drawn_map t wanted last number can i))
      ∙ sym (with_all-append no_counts (replies_to shape lines pairs) (replies_to shape more (after_all shape lines pairs)))
      ∙ ap counts_of (sym (replies_to-append shape lines more pairs))

  -- ---- a batch

  module _ {new : History} {later : FrameRunning} {more : List Line} {number : ℕ} {was replies : ReplyList} {result : Result (Unit {0}) StoreFault}
      (tries : RunsFrameBatch tells mid new number more (34 * length more + 1) (length more + 1) engine later was replies result) (counts : number ≡ 1 + length lines)
      (sound : tells → IsHistory mid) (some : 1 ≤ length more) (room : tells → (last number : ℕ) → StaysWithin last number (LINES_MAX + 2048) first → StaysWithin last number (length more) engine) where
    abbrev tried_lines : List Line
    tried_lines = take tries.tried more

    -- what the batch is said of
    may_go : tells → (wanted : Shape) (last number : ℕ) → CanRun wanted last number first old.world → MayGoOn engine mid.world (34 * length more + 1) (length more + 1)
    may_go t wanted last number can = record {
      wanted = wanted;
      told = says_nothing;
      from = can.stands.from;
      start = map_in first old.world;
      lines = lines;
      has = so_far.runs t wanted last number can;
      numbers = batch_numbers last number engine (length more) some (room t last number can.within);
    }

    batch_keeps : KeepsDrawn tells old new first (lines ++ tried_lines)
    batch_keeps = record {
      disk = λ t. disk_then old mid new (sound t) (so_far.keeps.disk t) (tries.disk t);
      crash = λ t wanted last number can.
          let n = length more in
          let start = map_in first old.world in
          let within = room t last number can.within in
          let K : World → Type 0 = CrashKeeps wanted last number first.store.shape start (lines ++ tried_lines) in
          let crash = tries.crash t wanted says_nothing can.stands.from start lines (so_far.runs t wanted last number can) (batch_numbers last number engine n some within) in
          let bounded = moments_further (engine.log.end.seg + (34 * n + 1 + 1)) (number_of engine.ckpt.mark + (n + 1)) last number wanted engine.store.shape start (lines ++ tried_lines) mid new
          (omega (arith, some, within.segments)) (omega (arith, some, within.checkpoints)) crash in
          joined old mid new K
          (weaker old mid (CrashKeeps wanted last number first.store.shape start lines) K
          (λ w keeps. crash_wider last number wanted first.store.shape start lines tried_lines w keeps) (so_far.keeps.crash t wanted last number can))
          (subst (λ (s : Shape). AllMoments mid new (CrashKeeps wanted last number s start (lines ++ tried_lines))) so_far.same.shape bounded);
    }

    batch_order : IfCanRun tells first old.world (later.order ≡ accepted first.store.shape 1 (lines ++ tried_lines) (map_in first old.world))
    batch_order t wanted last number can =
        tries.order t (may_go t wanted last number can)
        ∙ ap (λ (x : (List ℕ × ℕ) × (Shape × Pairs)). x.0.0 ++ accepted x.1.0 x.0.1 tried_lines x.1.1) (λ i. ((so_far.order t wanted last number can i, counts i), (so_far.same.shape i, drawn_map t wanted last number can i)))
        ∙ sym (accepted-append first.store.shape 1 lines tried_lines (map_in first old.world))

    -- no page is found bad
    pub drawn_sound : (id : PageId) → IsErrOf result (BadPage id) → IfCanRun tells first old.world ⊥
    drawn_sound id bad t wanted last number can = tries.sound t (may_go t wanted last number can) id bad

    -- a fault came while a batch was done
    pub tries_drawn : (script rest : List Line) → script ≡ lines ++ (more ++ rest) → length more ≤ BATCH_LINES_MAX → TriesDrawn tells old new script first later
    tries_drawn script rest is few =
        let front : take (length lines + tries.tried) script ≡ lines ++ tried_lines =
        ap (take (length lines + tries.tried)) is ∙ take-append-add lines (more ++ rest) tries.tried ∙ ap (λ ls. lines ++ ls) (take-append-le tries.tried more rest tries.within) in
        record {
          many = length lines;
          tried = length lines + tries.tried;
          from = omega arith;
          to = omega (arith, few, tries.within);
          within = omega (arith, ap (λ (l : List Line). length l) is, length-append lines (more ++ rest), length-append more rest, tries.within);
          order = λ t wanted last number can. batch_order t wanted last number can ∙ ap (λ ls. accepted first.store.shape 1 ls (map_in first old.world)) (sym front);
          keeps = subst (KeepsDrawn tells old new first) (sym front) batch_keeps;
        }

    -- the batch was done
    pub goes_on_drawn : tries.tried ≡ length more → StaysOpen result → HasRunDrawn tells old new first later (lines ++ more)
    goes_on_drawn all stays =
        let whole : tried_lines ≡ more = ap (λ n. take n more) all ∙ take_all (length more) more (omega arith) in
        subst (λ ls. HasRunDrawn tells old new first later (lines ++ ls)) whole
        (record {
          keeps = batch_keeps;
          same = same_both first engine later so_far.same tries.same;
          order = batch_order;
          runs = λ t wanted last number can.
              tries.runs t stays wanted says_nothing can.stands.from (map_in first old.world) lines (so_far.runs t wanted last number can) (batch_numbers last number engine (length more) some (room t last number can.within));
        })

    -- its replies
    pub drawn_replies : tries.tried ≡ length more → StaysOpen result → was.replies ≡ [] → IfCanRun tells first old.world (replies.replies ≡ replies_to engine.store.shape more (map_in engine mid.world))
    drawn_replies all stays none t wanted last number can =
        let whole : tried_lines ≡ more = ap (λ n. take n more) all ∙ take_all (length more) more (omega arith) in
        ap (λ (l : ReplyList). l.replies) (tries.evaluates t stays (may_go t wanted last number can)).replied
        ∙ ap (λ (x : List Reply × List Line). x.0 ++ replies_to engine.store.shape x.1 (map_in engine mid.world)) (λ i. (none i, whole i))

    -- and they are counted with those before them
    pub drawn_counts : tries.tried ≡ length more → StaysOpen result → was.replies ≡ [] → IfCanRun tells first old.world
        (with_all (counts_of (replies_to first.store.shape lines (map_in first old.world))) (take (length more) replies.replies) ≡ counts_of (replies_to first.store.shape (lines ++ more) (map_in first old.world)))
    drawn_counts all stays none t wanted last number can =
        let counted = counts_of (replies_to first.store.shape lines (map_in first old.world)) in
        let told = replies_to engine.store.shape more (map_in engine mid.world) in
        ap (λ (rs : List Reply). with_all counted (take (length more) rs)) (drawn_replies all stays none t wanted last number can)
        ∙ ap (with_all counted) (take_all (length more) told (omega (arith, length-replies_to engine.store.shape more (map_in engine mid.world))))
        ∙ counts_more t wanted last number can more

  -- ---- the force at the end, and a checkpoint where one is made

  module _ {new : History} {later : FrameRunning} {r : Result (Unit {0}) StoreFault} {list : ReplyList} (sound : tells → IsHistory mid) (few : length lines ≤ LINES_MAX) (takes : TakesFor (length lines) first engine)
      (ended : RunsFrameBatch tells mid new 1 [] 1 1 engine later list list r) (order_is : later.order ≡ engine.order) where
    room : (last number : ℕ) → StaysWithin last number (LINES_MAX + 2048) first → StaysWithin last number 2048 engine
    room last number stays = room_drawn last number (length lines) 2048 first engine (omega (arith, few)) stays takes

    pub forced_numbers : (last number : ℕ) → StaysWithin last number (LINES_MAX + 2048) first → HasNumbersIn engine 1 1
    forced_numbers last number stays =
        let within = room last number stays in
        record { in_log = omega (arith, within.segments, within.last_fits); in_marks = omega (arith, within.checkpoints, within.number_fits) }

    pub forced_within : TakesNumbersIn engine later 1 1 → (last number : ℕ) → StaysWithin last number (LINES_MAX + 2048) first → StaysWithin last number 2047 later
    forced_within took last number stays =
        let within = room last number stays in
        record { segments = omega (arith, within.segments, took.in_log); checkpoints = omega (arith, within.checkpoints, took.in_marks); last_fits = within.last_fits; number_fits = within.number_fits }

    pub forced_keeps : KeepsDrawn tells old new first lines
    forced_keeps = record {
      disk = λ t. disk_then old mid new (sound t) (so_far.keeps.disk t) (ended.disk t);
      crash = λ t wanted last number can.
          let start = map_in first old.world in
          let within = room last number can.within in
          let K : World → Type 0 = CrashKeeps wanted last number first.store.shape start lines in
          let crash : AllMoments mid new (CrashHoldsLines (engine.log.end.seg + (1 + 1)) (number_of engine.ckpt.mark + 1) wanted engine.store.shape start lines) =
          subst (λ (ls : List Line). AllMoments mid new (CrashHoldsLines (engine.log.end.seg + (1 + 1)) (number_of engine.ckpt.mark + 1) wanted engine.store.shape start ls)) (no_line_more lines ended.tried)
          (ended.crash t wanted says_nothing can.stands.from start lines (so_far.runs t wanted last number can) (forced_numbers last number can.within)) in
          joined old mid new K (so_far.keeps.crash t wanted last number can)
          (subst (λ (s : Shape). AllMoments mid new (CrashKeeps wanted last number s start lines)) so_far.same.shape
          (moments_further (engine.log.end.seg + (1 + 1)) (number_of engine.ckpt.mark + 1) last number wanted engine.store.shape start lines mid new (omega (arith, within.segments)) (omega (arith, within.checkpoints)) crash));
    }

    -- all lines were run, and a call at the end failed or not
    pub forced_tries : (script : List Line) → script ≡ lines → TriesDrawn tells old new script first later
    forced_tries script is =
        let front : take (length lines) script ≡ lines = ap (take (length lines)) is ∙ take_all (length lines) lines (omega arith) in
        record {
          many = length lines;
          tried = length lines;
          from = omega arith;
          to = omega arith;
          within = omega (arith, ap (λ (l : List Line). length l) is);
          order = λ t wanted last number can. order_is ∙ so_far.order t wanted last number can ∙ ap (λ ls. accepted first.store.shape 1 ls (map_in first old.world)) (sym front);
          keeps = subst (KeepsDrawn tells old new first) (sym front) forced_keeps;
        }

    pub forced_ran : StaysOpen r → HasRunDrawn tells old new first later lines
    forced_ran stays = record {
      keeps = forced_keeps;
      same = same_both first engine later so_far.same ended.same;
      order = λ t wanted last number can. order_is ∙ so_far.order t wanted last number can;
      runs = λ t wanted last number can.
          subst (λ (ls : List Line). HasDoneLines wanted says_nothing can.stands.from (map_in first old.world) ls later new.world) (no_line_more lines ended.tried)
          (ended.runs t stays wanted says_nothing can.stands.from (map_in first old.world) lines (so_far.runs t wanted last number can) (forced_numbers last number can.within));
    }
