-- A force of the log after a batch over page frames, and a checkpoint where one is due.
use Rattle.std.proofs.Common.{◌≡◌, ℕ, ◌+◌, ◌-◌, ◌*◌, ◌<◌, ◌≤◌, List, [], ◌++◌, length, Bool, true, false, Some, None}
use Rattle.std.proofs.Common.{Result, Ok, Err, inl, inr, nat_lt, refl, sym, ◌∙◌, ap, subst, arith}
use Rattle.std.specs.Prelude.{◌^◌, ◌||◌, if◌then◌else◌, OnOk}
use Rattle.std.proofs.lemmas.Bool.{le-ltb}
use Rattle.std.proofs.lemmas.Bool.Decides.{nat_tests}
use Rattle.std.proofs.lemmas.Result.{on_ok_weaker}
use Rattle.pm_types.specs.declared.fault.StoreFault.{StoreFault}
use Rattle.pm_types.specs.declared.fault.StoreFault.TheVariants.{Failed}
use Rattle.pm_types.specs.declared.page_id.PageId.{PageId}
use Rattle.pm_types.specs.declared.shape.Mark.{Mark}
use Rattle.pm_types.specs.declared.shape.Shape.{Shape}
use Rattle.pm_frame.specs.declared.limits.TheConstants.{FRAME_EXTRA}
use Rattle.pm_config.specs.declared.config.Config.{Config}
use Rattle.pm_disk.specs.Moments.{History, IsHistory, AllMoments}
use Rattle.pm_records.specs.Logs.{place}
use Rattle.pm_segments.specs.Appends.{roomy}
use Rattle.pm_segments.specs.Ends.{LogEnd, EndsThere}
use Rattle.pm_model.specs.declared.line.Line.{Line}
use Rattle.pm_model.specs.Eval.{Pairs}
use Rattle.pm_model.specs.ReplyLists.{ReplyList}
use Rattle.pm_ckpt.specs.Marked.{Kept, number_after, begin_frame, mark_for}
use Rattle.pm_ckpt.proofs.GoingOn.{payload_len}
use Rattle.pm_core.specs.BasePages.{Partitions}
use Rattle.pm_core.specs.Calls.{ChangesDisk}
use Rattle.pm_engine.specs.CheckedEngines.{IsAfterCheckpoint}
use Rattle.pm_engine.specs.declared.log_count.LogCount.{LogCount}
use Rattle.pm_engine.specs.FrameBatches.{is_due_idle, is_due_past, SettlesEngine, HasNumbersIn, TakesNumbersIn, EndsAtReplayIn, KeepsEngine, RunsFrameBatch, ChecksBetween, LeavesAllLastingIn, LeavesAllAtRest, LooksAtEngine}
use Rattle.pm_engine.specs.LogCounts.{idle_bytes}
use Rattle.pm_engine.specs.FrameDirty.{ListsDirty, dirty_names, dirty_bytes}
use Rattle.pm_engine.specs.Engines.{FrameRunning, HasDoneLines, HasLastingLinesIn, AllLastIn, IsSameEngine, closed_engine, map_in}
use Rattle.pm_engine.specs.FrameStores.{FrameStoreView, pages_in_frames, HasCleanPages, IsDirtyPage}
use Rattle.pm_engine.specs.Batches.{StaysOpen}
use Rattle.pm_engine.specs.RunningStores.{number_of}
use Rattle.pm_engine.specs.RunningLines.{CrashHoldsLines}
use Rattle.pm_engine.specs.RunningStores.{HasSegmentsFor}
use Rattle.pm_engine.proofs.FrameBatchCalls.{done_none_more, keeps_done, keeps_ends, keeps_map, keeps_numbers, kept_none, failed_none, done_none}
use Rattle.pm_engine.proofs.FrameBatching.{numbers_more, batch_more}
use Rattle.pm_engine.proofs.FrameLooks.{looks_keep, looks_names, none_dirty}
use Rattle.pm_engine.proofs.RisenNumbers.{number_rises, mark_rises}
use Rattle.pm_engine.proofs.RisenLogs.{grown_rises}
use Rattle.pm_engine.proofs.RunningLines.{moments_further}

-- ---- a checkpoint between two lines

module _ (before now : FrameRunning) (next : IsAfterCheckpoint before now) where
  abbrev mark : Mark
  mark = mark_for before.ckpt before.log None

  mark_is : now.ckpt.mark ≡ Some mark
  mark_is = ap (λ (k : Kept). k.mark) next.next.kept

  number_is : number_of now.ckpt.mark ≡ mark.number
  number_is = ap number_of mark_is

  next_takes : TakesNumbersIn before now 1 1
  next_takes =
      let most : mark.number ≤ number_of before.ckpt.mark + 1 = mark_rises before.ckpt.mark in
      record {
        in_log = omega (arith, ap (λ (l : LogEnd). l.end.seg) next.next.ends, grown_rises before.log (begin_frame mark));
        in_marks = omega (arith, number_is, most);
        risen = λ some. omega (arith, next_made some);
      }
    where
      next_made : number_of before.ckpt.mark + 1 < 2 ^ 64 → number_of now.ckpt.mark ≡ number_of before.ckpt.mark + 1
      next_made some =
          let rises : number_after before.ckpt.mark ≡ number_of before.ckpt.mark + 1 = number_rises before.ckpt.mark in
          let fits : nat_lt (number_after before.ckpt.mark) (2 ^ 64) ≡ true = grind (arith, nat_tests) in
          number_is ∙ ap (λ (b : Bool). if b then number_after before.ckpt.mark else 1) fits ∙ rises

  next_number : number_of before.ckpt.mark + 1 < 2 ^ 64 → number_of before.ckpt.mark + 1 ≤ number_of now.ckpt.mark
  next_number some =
      let rises : number_after before.ckpt.mark ≡ number_of before.ckpt.mark + 1 = number_rises before.ckpt.mark in
      let fits : nat_lt (number_after before.ckpt.mark) (2 ^ 64) ≡ true = grind (arith, nat_tests) in
      omega (arith, number_is ∙ ap (λ (b : Bool). if b then number_after before.ckpt.mark else 1) fits ∙ rises)

  -- just after its CP_BEGIN, from where a restart would apply the log
  next_ends : EndsAtReplayIn now
  next_ends = record {
    mark = mark;
    is = mark_is;
    ends = ap (λ (l : LogEnd). l.end) next.next.ends
        ∙ ap (λ (n : ℕ). place (roomy before.log n).end.seg ((roomy before.log n).end.off + (n + FRAME_EXTRA))) (payload_len mark.number mark.replay);
  }

  next_not_due : dirty_names now.store ≡ [] → (most : ℕ) (config : Config) → is_due_past most now config ≡ false
  next_not_due none most config =
      let total : now.began.found + (now.log.total - now.began.total) ≡ 0 = omega (arith, ap (λ (b : LogCount). b.found) next.began, ap (λ (b : LogCount). b.total) next.began) in
      none_due (nat_lt most (now.began.found + (now.log.total - now.began.total))) (nat_lt (config.dirty_percent * config.frames) (100 * length (dirty_names now.store)))
      (le-ltb _ _ (omega (arith, total))) (le-ltb _ _ (omega (arith, ap length none)))
    where
      none_due : (a b : Bool) → a ≡ false → b ≡ false → (a || b) ≡ false
      none_due a b p q = ap (λ (c : Bool). c || b) p ∙ q

module _ (tells : Type 0) (old new : History) (before now : FrameRunning) (same : IsSameEngine before now) (order : now.order ≡ before.order)
    (disk : tells → AllMoments old new (ChangesDisk old.world))
    (crash : tells → (wanted : Shape) (told : List ℕ → ℕ) (from : ℕ) (start : Pairs) (lines : List Line)
    → HasDoneLines wanted told from start lines before old.world → HasSegmentsFor before.log 1 → number_of before.ckpt.mark + 1 < 2 ^ 64
    → AllMoments old new (CrashHoldsLines (before.log.end.seg + 2) (number_of before.ckpt.mark + 1) wanted before.store.shape start lines)) where
  crashes : tells → (wanted : Shape) (told : List ℕ → ℕ) (from : ℕ) (start : Pairs) (lines : List Line)
      → HasDoneLines wanted told from start lines before old.world → HasNumbersIn before 1 1
      → AllMoments old new (CrashHoldsLines (before.log.end.seg + (1 + 1)) (number_of before.ckpt.mark + 1) wanted before.store.shape start lines)
  crashes t wanted told from start lines has some = crash t wanted told from start lines has some.in_log some.in_marks

  pub checks_failed : (fault : StoreFault) → fault ≡ Failed → now.store.is_open ≡ false → ChecksBetween tells old new before now (Err fault)
  checks_failed fault is off = subst (λ (f : StoreFault). ChecksBetween tells old new before now (Err f)) (sym is) (record {
    runs = λ first list. failed_none tells old new before now 1 1 same order disk crashes first list off;
    lasts = λ t wanted told from start done has some. tt;
    numbers = λ stays. absurd stays;
    made = tt;
    ends = tt;
    not_due = λ most config. tt;
    order = order;
    plain = refl;
  })

  pub checks_made : IsAfterCheckpoint before now → now.store.is_open ≡ true → (tells → EndsThere now.log new.world) → (tells → HasCleanPages now.store new.world)
      → (tells → (wanted : Shape) (told : List ℕ → ℕ) (from : ℕ) (start : Pairs) (lines : List Line)
      → HasDoneLines wanted told from start lines before old.world → HasSegmentsFor before.log 1 → number_of before.ckpt.mark + 1 < 2 ^ 64
      → HasLastingLinesIn wanted told from start lines now new.world)
      → (tells → (part index : ℕ) (bytes : List ℕ) → pages_in_frames before.store old.world part index ≡ Some bytes → pages_in_frames now.store new.world part index ≡ Some bytes)
      → ListsDirty now.store (dirty_names now.store) (dirty_bytes now.store) → ((id : PageId) → IsDirtyPage now.store id → ⊥)
      → ChecksBetween tells old new before now (Ok tt)
  checks_made next opens ends_now clean lasts there_still lists none = record {
    runs = λ first list. done_none tells old new before now 1 1 same order disk crashes
        (λ t wanted told from start lines has some. (lasts t wanted told from start lines has some.in_log some.in_marks).done) there_still first list opens ends_now clean;
    lasts = λ t wanted told from start done has some.
        lasts t wanted told from start (done ++ []) (done_none_more wanted told from start done before old.world has) some.in_log some.in_marks;
    numbers = λ stays. next_takes before now next;
    made = next_number before now next;
    ends = next_ends before now next;
    not_due = next_not_due before now next (none_dirty now.store lists none);
    order = order;
    plain = tt;
  }

-- ---- a force that failed

pub force_failed : (tells : Type 0) (old new : History) (before now : FrameRunning) → now ≡ closed_engine before
    → (tells → AllMoments old new (ChangesDisk old.world))
    → (tells → (wanted : Shape) (told : List ℕ → ℕ) (from : ℕ) (start : Pairs) (lines : List Line)
    → HasDoneLines wanted told from start lines before old.world
    → AllMoments old new (CrashHoldsLines (before.log.end.seg + 1) (number_of before.ckpt.mark) wanted before.store.shape start lines))
    → (first : ℕ) (list : ReplyList) → RunsFrameBatch tells old new first [] 1 1 before now list list (Err Failed)
force_failed tells old new before now is disk crash first list =
    subst (λ (e : FrameRunning). RunsFrameBatch tells old new first [] 1 1 before e list list (Err Failed)) (sym is)
    (failed_none tells old new before (closed_engine before) 1 1 (record { shape = refl; region = refl; locks = refl }) refl disk
    (λ t wanted told from start lines has some.
    moments_further (before.log.end.seg + 1) (number_of before.ckpt.mark) (before.log.end.seg + (1 + 1)) (number_of before.ckpt.mark + 1) wanted before.store.shape start lines old new
    (omega arith) (omega arith) (crash t wanted told from start lines has)) first list refl)

-- ---- a force, and a look whether a checkpoint is due

module _ (tells : Type 0) (old mid : History) (before forced looked : FrameRunning) (is : forced ≡ before) (opens : before.store.is_open ≡ true) (sound : tells → IsHistory mid)
    (ends_mid : tells → EndsThere forced.log mid.world) (clean_mid : tells → HasCleanPages forced.store mid.world)
    (lasts : tells → (wanted : Shape) (told : List ℕ → ℕ) (from : ℕ) (start : Pairs) (lines : List Line)
    → HasDoneLines wanted told from start lines before old.world → HasLastingLinesIn wanted told from start lines forced mid.world)
    (crash : tells → (wanted : Shape) (told : List ℕ → ℕ) (from : ℕ) (start : Pairs) (lines : List Line)
    → HasDoneLines wanted told from start lines before old.world
    → AllMoments old mid (CrashHoldsLines (before.log.end.seg + 1) (number_of before.ckpt.mark) wanted before.store.shape start lines))
    (disk : tells → AllMoments old mid (ChangesDisk old.world)) (looks : LooksAtEngine forced looked) where
  keeps : KeepsEngine tells mid mid forced looked
  keeps = looks_keep tells mid forced looked looks sound clean_mid

  abbrev AsBefore : FrameRunning → Type 0
  AsBefore e = KeepsEngine tells mid mid e looked

  -- the same of the engine before the force
  kept : KeepsEngine tells mid mid before looked
  kept = subst AsBefore is keeps

  pub looked_opens : looked.store.is_open ≡ true
  looked_opens = ap (λ (e : FrameRunning). e.store.is_open) looks.engine ∙ ap (λ (s : FrameStoreView). s.is_open) looks.frames.store ∙ ap (λ (e : FrameRunning). e.store.is_open) is ∙ opens

  pub looked_ends : tells → EndsThere looked.log mid.world
  looked_ends t = keeps_ends tells mid mid forced looked keeps t (ends_mid t)

  pub looked_clean : tells → HasCleanPages looked.store mid.world
  looked_clean t = keeps.clean t

  pub looked_takes : TakesNumbersIn before looked 0 0
  looked_takes = keeps_numbers tells mid mid before looked kept 0 0

  looked_done : tells → (wanted : Shape) (told : List ℕ → ℕ) (from : ℕ) (start : Pairs) (lines : List Line)
      → HasDoneLines wanted told from start lines before old.world → HasDoneLines wanted told from start lines looked mid.world
  looked_done t wanted told from start lines has = keeps_done tells mid mid forced looked keeps t wanted told from start lines (lasts t wanted told from start lines has).done

  pub looked_runs : (tells → pages_in_frames forced.store mid.world ≡ pages_in_frames before.store old.world) → (first segments checkpoints : ℕ) (list : ReplyList) → RunsFrameBatch tells old mid first [] segments checkpoints before looked list list (Ok tt)
  looked_runs pages_mid first segments checkpoints list =
      done_none tells old mid before looked segments checkpoints kept.same kept.order disk
      (λ t wanted told from start lines has some.
      moments_further (before.log.end.seg + 1) (number_of before.ckpt.mark) (before.log.end.seg + (segments + 1)) (number_of before.ckpt.mark + checkpoints) wanted before.store.shape start lines old mid
      (omega arith) (omega arith) (crash t wanted told from start lines has))
      (λ t wanted told from start lines has some. looked_done t wanted told from start lines has)
      (λ t part index bytes there. ap (λ (pages : Partitions). pages part index) (keeps.pages t ∙ pages_mid t) ∙ there) first list looked_opens looked_ends looked_clean

  pub looked_lasts : LeavesAllLastingIn tells old mid [] 1 1 before looked (Ok tt)
  looked_lasts t wanted told from start done has some =
      let more = done_none_more wanted told from start done before old.world has in
      record { done = looked_done t wanted told from start (done ++ []) more; quiet = (lasts t wanted told from start (done ++ []) more).quiet }

  pub looked_at_rest : (tells → (wanted : Shape) (told : List ℕ → ℕ) (from : ℕ) (start : Pairs) (lines : List Line)
      → HasDoneLines wanted told from start lines before old.world → AllLastIn wanted told forced mid.world) → LeavesAllAtRest tells old mid 1 1 before looked (Ok tt)
  looked_at_rest rests t wanted told from start done has some =
      let it = rests t wanted told from start done has in
      record {
        low = it.low;
        lasts = subst (λ (p : Pairs). HasLastingLinesIn wanted told it.low p [] looked mid.world) (sym (keeps_map tells mid mid forced looked keeps t)) (record {
          done = keeps_done tells mid mid forced looked keeps t wanted told it.low (map_in forced mid.world) [] it.lasts.done;
          quiet = it.lasts.quiet;
        });
      }

  pub looked_still : EndsAtReplayIn before → EndsAtReplayIn looked
  looked_still ends = record {
    mark = ends.mark;
    is = ap (λ (k : Kept). k.mark) kept.ckpt ∙ ends.is;
    ends = ap (λ (l : LogEnd). l.end) kept.log ∙ ends.ends;
  }

  pub looked_due : (most : ℕ) (config : Config) → is_due_past most looked config ≡ is_due_past most forced config
  looked_due most config = λ i.
      nat_lt most ((keeps.began i).found + ((keeps.log i).total - (keeps.began i).total))
      || nat_lt (config.dirty_percent * config.frames) (100 * length (looks_names forced.store looked.store looks.frames i))

  -- and a checkpoint
  module _ (new : History) (now : FrameRunning) (r : Result (Unit {0}) StoreFault) (checks : ChecksBetween tells mid new looked now r) where
    pub then_runs : (tells → pages_in_frames forced.store mid.world ≡ pages_in_frames before.store old.world) → (first : ℕ) (list : ReplyList) → RunsFrameBatch tells old new first [] 1 1 before now list list r
    then_runs pages_mid first list =
        batch_more tells old mid first [] 1 1 before looked list list (looked_runs pages_mid first 1 1 list) new first [] 1 1 now list r (checks.runs first list)
        (omega arith) 0 0 looked_takes 1 1 (omega arith) (omega arith) (omega arith) (omega arith) sound

    pub then_lasts : LeavesAllLastingIn tells old new [] 1 1 before now r
    then_lasts t wanted told from start done has some =
        checks.lasts t wanted told from start done (looked_done t wanted told from start done has)
        (record { in_log = omega (arith, some.in_log, looked_takes.in_log); in_marks = omega (arith, some.in_marks, looked_takes.in_marks) })

    pub then_at_rest : (tells → (wanted : Shape) (told : List ℕ → ℕ) (from : ℕ) (start : Pairs) (lines : List Line)
        → HasDoneLines wanted told from start lines before old.world → AllLastIn wanted told forced mid.world) → LeavesAllAtRest tells old new 1 1 before now r
    then_at_rest rests t wanted told from start done has some =
        let it = looked_at_rest rests t wanted told from start done has some in
        on_ok_weaker r
        (λ more. record { low = it.low; lasts = subst (λ (p : Pairs). HasLastingLinesIn wanted told it.low p [] now new.world) (sym more.done.has.map) more })
        (checks.lasts t wanted told it.low (map_in looked mid.world) [] it.lasts.done
        (record { in_log = omega (arith, some.in_log, looked_takes.in_log); in_marks = omega (arith, some.in_marks, looked_takes.in_marks) }))

    pub then_takes : StaysOpen r → TakesNumbersIn before now 1 1
    then_takes stays = numbers_more before looked now 0 0 1 1 looked_takes (checks.numbers stays) 1 1 (omega arith) (omega arith)

    pub then_still : OnOk r (EndsAtReplayIn before → EndsAtReplayIn now)
    then_still = on_ok_weaker r (λ ends was. ends) checks.ends

-- ---- a look whether a checkpoint is due, where nothing was forced

module _ (tells : Type 0) (old : History) (before looked : FrameRunning) (opens : before.store.is_open ≡ true) (sound : tells → IsHistory old)
    (ends : tells → EndsThere before.log old.world) (clean : tells → HasCleanPages before.store old.world) (looks : LooksAtEngine before looked) where
  seen : KeepsEngine tells old old before looked
  seen = looks_keep tells old before looked looks sound clean

  pub seen_opens : looked.store.is_open ≡ true
  seen_opens = ap (λ (e : FrameRunning). e.store.is_open) looks.engine ∙ ap (λ (s : FrameStoreView). s.is_open) looks.frames.store ∙ opens

  pub seen_ends : tells → EndsThere looked.log old.world
  seen_ends t = keeps_ends tells old old before looked seen t (ends t)

  pub seen_clean : tells → HasCleanPages looked.store old.world
  seen_clean t = seen.clean t

  seen_runs : (first : ℕ) (list : ReplyList) → RunsFrameBatch tells old old first [] 1 1 before looked list list (Ok tt)
  seen_runs first list =
      kept_none tells old old before looked seen first 1 1 list (Ok tt) (λ stays. seen_opens) (λ shut. absurd (shut tt)) ends (λ t may id bad. absurd (cc bad)) (λ t may_change id bad. absurd (cc bad)) refl

  seen_due : (most : ℕ) (config : Config) → is_due_past most looked config ≡ is_due_past most before config
  seen_due most config = λ i.
      nat_lt most ((seen.began i).found + ((seen.log i).total - (seen.began i).total))
      || nat_lt (config.dirty_percent * config.frames) (100 * length (looks_names before.store looked.store looks.frames i))

  -- none is
  pub settled_seen : (config : Config) → is_due_idle before config ≡ false → SettlesEngine tells old old config before looked (Ok tt)
  settled_seen config none = record {
    runs = seen_runs;
    numbers = λ stays. keeps_numbers tells old old before looked seen 1 1;
    not_due = seen_due (idle_bytes config) config ∙ none;
    counted = inr seen.began;
    order = seen.order;
    plain = tt;
  }

  -- one was made
  pub settled_then : (new : History) (now : FrameRunning) (r : Result (Unit {0}) StoreFault) → ChecksBetween tells old new looked now r → (config : Config) → SettlesEngine tells old new config before now r
  settled_then new now r checks config = record {
    runs = λ first list.
        batch_more tells old old first [] 1 1 before looked list list (seen_runs first list) new first [] 1 1 now list r (checks.runs first list)
        (omega arith) 0 0 (keeps_numbers tells old old before looked seen 0 0) 1 1 (omega arith) (omega arith) (omega arith) (omega arith) sound;
    numbers = λ stays. numbers_more before looked now 0 0 1 1 (keeps_numbers tells old old before looked seen 0 0) (checks.numbers stays) 1 1 (omega arith) (omega arith);
    not_due = checks.not_due (idle_bytes config) config;
    counted = on_ok_weaker r inl checks.ends;
    order = checks.order ∙ seen.order;
    plain = checks.plain;
  }
