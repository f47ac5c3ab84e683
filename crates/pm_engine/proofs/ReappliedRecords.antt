-- A command that an engine over page frames applies again, once what it handed over is appended.
use Rattle.std.proofs.Common.{◌≡◌, inl, inr, ℕ, ◌+◌, ◌<◌, ◌≤◌, Bool, true, false, List, [], ◌++◌, length, Option, Some, None, Result, Ok, Err, refl, sym, ap, ◌∙◌, subst, arith}
use Rattle.std.specs.Prelude.{◌↔◌, if◌then◌else◌, IfOk, IsSome, IsErrOf, is_some}
use Rattle.std.proofs.lemmas.Bool.{false≢true}
use Rattle.pm_types.specs.declared.fault.PageFault.TheVariants.{BadPage}
use Rattle.pm_types.specs.declared.page_id.PageId.{PageId}
use Rattle.pm_types.specs.declared.place.Place.{Place}
use Rattle.pm_types.specs.declared.shape.Shape.{Shape}
use Rattle.pm_types.specs.Ids.{page_id}
use Rattle.pm_frame.specs.Frames.{Frame}
use Rattle.pm_disk.specs.declared.failed.Failed.{Failed}
use Rattle.pm_disk.specs.Files.{File}
use Rattle.pm_disk.specs.Moments.{History, IsHistory, AllMoments}
use Rattle.pm_disk.specs.States.{DeviceState}
use Rattle.pm_disk.specs.Worlds.{World}
use Rattle.pm_disk.proofs.Chain.{started, weaker, joined}
use Rattle.pm_records.specs.LogSteps.{DoesSteps, world_after}
use Rattle.pm_records.specs.Operations.{Operation, operations_bytes}
use Rattle.pm_records.proofs.QuietLog.{steps_change}
use Rattle.pm_records.proofs.Runs.{bool_cases}
use Rattle.pm_model.specs.declared.line.Cmd.{Cmd}
use Rattle.pm_model.specs.declared.line.Line.TheVariants.{Good}
use Rattle.pm_model.specs.Eval.{Pairs}
use Rattle.pm_model.specs.Orders.{part_of_line}
use Rattle.pm_model.specs.ReplyLists.{ReplyList}
use Rattle.pm_segments.specs.Ends.{LogEnd, EndsThere}
use Rattle.pm_pages.specs.Asked.{is_changed}
use Rattle.pm_core.specs.BasePages.{Partitions}
use Rattle.pm_core.specs.Calls.{ChangesDisk, MakesPrefix, MakesSteps}
use Rattle.pm_core.specs.Held.{AllWellFormed}
use Rattle.pm_core.specs.Machine.{DiskStep, states, worlds}
use Rattle.pm_core.specs.Rounds.{on_log}
use Rattle.pm_core.specs.Starts.{appended}
use Rattle.pm_core.specs.States.{State}
use Rattle.pm_core.proofs.OnlyDisk.{logs_disk, none_disk, same_disk}
use Rattle.pm_locks.specs.Sight.{LockTable}
use Rattle.pm_stripe.specs.declared.bound.Bound.{Bound}
use Rattle.pm_stripe.specs.declared.halt.Halt.{Halt}
use Rattle.pm_stripe.specs.Kept.{Kept, AreClean, IsStaying}
use Rattle.pm_stripe.specs.Reads.{stored}
use Rattle.pm_stripe.specs.Shown.{kept_by}
use Rattle.pm_stripe.specs.Stripes.{kept, file_in}
use Rattle.pm_engine.specs.declared.frame_lines.Stop.{Stop}
use Rattle.pm_engine.specs.declared.frame_lines.Stop.TheVariants.{Halted, Faulted}
use Rattle.pm_engine.specs.AppendRuns.{AppendsAll, append_all_steps, grown_all}
use Rattle.pm_engine.specs.FrameCommands.{frame_pages, noted_in, ChangesAsNoted, ChangesNothing, HandsOverChange}
use Rattle.pm_engine.specs.EngineReplays.{HasWholePages, IsReplayingIn, ReplaysOnIn, GoesOnInFrames, EvaluatesAgain}
use Rattle.pm_engine.specs.Engines.{FrameRunning, IsEngine, running_in}
use Rattle.pm_engine.specs.FramedStores.{HasStore}
use Rattle.pm_engine.specs.FrameHosts.{SendsOutbox, ChangesNoWorld}
use Rattle.pm_engine.specs.FrameLines.{EvaluatesLine}
use Rattle.pm_engine.specs.FrameReplays.{LeavesApplied, AppliesToStore, may_apply_more}
use Rattle.pm_engine.specs.FrameStores.{FrameStoreView, pages_in_frames, IsDirtyPage, HasCleanPages, shut}
use Rattle.pm_engine.specs.MetPages.{AllowsLine, KeepsPagesBut, MeetsBadPage}
use Rattle.pm_engine.specs.OutboxLogs.{SpellOperationRecords, SpellNumbers, HasNumberRoom, records_of, numbers_of}
use Rattle.pm_engine.specs.RunningStores.{number_of}
use Rattle.pm_engine.specs.Replays.{CrashHoldsMap, AreLasting, GrewAtEnd}
use Rattle.pm_engine.specs.RunningLines.{KeepsLines}
use Rattle.pm_engine.specs.RunningSteps.{appended_to, SayPagesOver}
use Rattle.pm_engine.specs.RunningStores.{StoreState, RunsOver, HasSegmentsFor}
use Rattle.pm_engine.proofs.GrownWorlds.{all_grew, grew_none}
use Rattle.pm_engine.proofs.LentReaders.{clean_there}
use Rattle.pm_engine.proofs.OperationSteps.{machine_steps}
use Rattle.pm_engine.proofs.GrownLogs.{all_rises, all_size, all_from}
use Rattle.pm_engine.proofs.OwnPages.{kept_but_own, kept_equal}
use Rattle.pm_engine.proofs.ReappliedStores.{HandsAgain, hands_again, Reapplies, reapplies}
use Rattle.pm_engine.proofs.ReplayingStores.{holds_soon, then_runs, then_keeps, still_lasts, then_crash}
use Rattle.pm_engine.proofs.RoundLines.{numbers_long}
use Rattle.pm_engine.proofs.RunningLines.{ChangeNoMap}
use Rattle.pm_engine.proofs.ToldFaults.{met_told}
use Rattle.pm_engine.proofs.WholePages.{ChangesOwnPart, whole_same, whole_changed}

-- ---- nothing was changed

pub goes_on_same : (tells : Type 0) (engine : FrameRunning) (old : History) → (tells → IsHistory old) → (tells → EndsThere engine.log old.world) → (tells → HasCleanPages engine.store old.world) → GoesOnInFrames tells engine engine old old
goes_on_same tells engine old sound there clean = record {
  same = record { shape = refl; region = refl; locks = refl };
  ckpt = refl;
  began = refl;
  order = refl;
  files = refl;
  rises = λ on. omega arith;
  clean = λ t on. clean t;
  ends = λ t on. there t;
  disk = λ t. none_disk old (sound t);
  grew = λ t segments on. grew_none engine.log old.world;
  whole = λ t on whole. whole;
  runs = λ t on wanted told pairs s is segments. record { state = s; is = is; lasts = λ from left lasts. lasts };
  crash = λ t wanted told pairs s is segments. started old (CrashHoldsMap (engine.log.end.seg + 33) (number_of engine.ckpt.mark) wanted engine.store.shape pairs) (sound t)
      (holds_soon wanted told pairs (running_in engine old.world is.logged) s old.world is.runs is.keeps);
}

-- the same, where the host only said that memory ran out
pub goes_on_quiet : (tells : Type 0) (engine : FrameRunning) (old new : History) → (tells → ChangesNoWorld old new) → (tells → EndsThere engine.log old.world) → (tells → HasCleanPages engine.store old.world) → GoesOnInFrames tells engine engine old new
goes_on_quiet tells engine old new quiet there clean = record {
  same = record { shape = refl; region = refl; locks = refl };
  ckpt = refl;
  began = refl;
  order = refl;
  files = refl;
  rises = λ on. omega arith;
  clean = λ t on. subst (λ (w : World). HasCleanPages engine.store w) (sym (quiet t).world) (clean t);
  ends = λ t on. subst (λ (w : World). EndsThere engine.log w) (sym (quiet t).world) (there t);
  disk = λ t. same_disk old new (quiet t).moments;
  grew = λ t segments on. subst (λ (w : World). GrewAtEnd engine.log engine.log old.world w) (sym (quiet t).world) (grew_none engine.log old.world);
  whole = λ t on whole. subst (λ (w : World). HasWholePages engine.store w) (sym (quiet t).world) whole;
  runs = λ t on wanted told pairs s is segments. subst (λ (w : World). ReplaysOnIn wanted told pairs engine s old.world w) (sym (quiet t).world) (record { state = s; is = is; lasts = λ from left lasts. lasts });
  crash = λ t wanted told pairs s is segments.
      let P : World → Type 0 = CrashHoldsMap (engine.log.end.seg + 33) (number_of engine.ckpt.mark) wanted engine.store.shape pairs in
      weaker old new (λ w. w ≡ old.world) P (λ w same. subst P (sym same) (holds_soon wanted told pairs (running_in engine old.world is.logged) s old.world is.runs is.keeps)) (quiet t).moments;
}

-- ---- a command was applied

module _ {Q R : Type 0} (tells rtells : Type 0) (history : R → History) (state : R → DeviceState) (cmd : Cmd) (before : FrameRunning) (mid : FrameStoreView) (was now : ReplyList) (back : R) (answer : Result Bool Stop)
    (h0 h1 : History) (applied : AppliesToStore Q rtells history state cmd before.store mid h0.world was now back answer) (told : tells → rtells) (quiet : tells → ChangesNoWorld h0 h1) (sent : before.store.stripe.outbox ≡ []) where
  abbrev start : Bound Q R
  start = applied.start

  abbrev finish : Bound Q R
  finish = applied.finish

  -- ---- what it handed over

  handed : HandsAgain answer start.stripe.outbox finish.stripe.outbox
  handed = hands_again rtells history state cmd start finish answer applied.applies.leaves

  abbrev operations : List Operation
  operations = handed.operations

  began_empty : start.stripe.outbox ≡ []
  began_empty = applied.began.outbox ∙ sent

  outbox_is : mid.stripe.outbox ≡ operations_bytes operations
  outbox_is = applied.outbox ∙ handed.grows ∙ ap (λ bs. bs ++ operations_bytes operations) began_empty

  frames_handed : SpellOperationRecords mid.stripe.outbox (records_of operations)
  frames_handed = record { operations = operations; are = handed.are; bytes_are = outbox_is; frames_are = refl }

  numbers_handed : SpellNumbers mid.stripe.outbox (numbers_of operations)
  numbers_handed = record { operations = operations; are = handed.are; bytes_are = outbox_is; numbers_are = refl }

  -- a list has room for its number that has room for one
  pub number_room : (count capacity : ℕ) → count + 1 ≤ capacity → HasNumberRoom mid.stripe.outbox count capacity
  number_room count capacity room = record {
    numbers = numbers_of operations;
    spelled = numbers_handed;
    fits = omega (arith, room, numbers_long operations, handed.few);
  }

  -- ---- where the pages are told

  module _ (t : tells) where
    well_there : AllWellFormed before.store.shape (pages_in_frames before.store h0.world) → AllWellFormed start.stripe.shape (frame_pages history start)
    well_there well = subst (λ (p : Shape × Partitions). AllWellFormed p.0 p.1) (λ i. (sym applied.began.shape i, sym (applied.began.pages (told t)) i)) well

    module _ (wanted : Shape) (says : List ℕ → ℕ) (pairs : Pairs) (s : State) (is : IsReplayingIn wanted says pairs before s h0.world) where
      abbrev store : StoreState
      store = running_in before h0.world is.logged

      has_store : HasStore history store start
      has_store = record {
        shape = sym applied.began.shape;
        pages = sym (applied.began.pages (told t));
        logged = λ part index below low_index.
            let inside : part < before.store.shape.partitions = subst (λ (k : Shape). part < k.partitions) applied.began.shape below in
            let named = is.names.each part index inside low_index in
            let dirty = applied.began.dirty (page_id part index) in
            (λ has. dirty.1 (named.0 has), λ stay. named.1 (dirty.0 stay));
        holds = is.runs.holds;
        settled = applied.settled;
      }

      again : Reapplies history store start finish (may_apply_more answer)
      again = reapplies rtells history state (told t) cmd store start finish was now has_store answer applied.applies.leaves (applied.applies.evaluates (told t) (well_there is.runs.holds.well_formed))

      again_handed : SpellOperationRecords mid.stripe.outbox again.frames
      again_handed = subst (λ (bs : List ℕ). SpellOperationRecords bs again.frames) (sym applied.outbox)
          (again.hands [] (record { operations = []; are = tt; bytes_are = began_empty; frames_are = refl }))

  -- ---- and it was appended, or not

  module _ {T E : Type 0} (h2 : History) (result : Result T E) (log : LogEnd) (appends : (frames : List Frame) → SpellOperationRecords mid.stripe.outbox frames → AppendsAll {T = T} {E = E} tells h1 h2 result before.log log frames) where
    handed_appends : AppendsAll {T = T} {E = E} tells h1 h2 result before.log log (records_of operations)
    handed_appends = appends (records_of operations) frames_handed

    disk_then : tells → AllMoments h0 h2 (ChangesDisk h0.world)
    disk_then t =
        joined h0 h1 h2 (ChangesDisk h0.world) (same_disk h0 h1 (quiet t).moments)
        (subst (λ (w : World). AllMoments h1 h2 (ChangesDisk w)) (quiet t).world (logs_disk h1 h2 (append_all_steps before.log (records_of operations)) before.log.end (handed_appends.steps t).moments))

    module _ (t : tells) (wanted : Shape) (says : List ℕ → ℕ) (pairs : Pairs) (s : State) (is : IsReplayingIn wanted says pairs before s h0.world) (segments : HasSegmentsFor before.log 32) where
      abbrev there : StoreState
      there = store t wanted says pairs s is

      abbrev led : Reapplies history there start finish (may_apply_more answer)
      led = again t wanted says pairs s is

      abbrev on_disk : List DiskStep
      on_disk = on_log (append_all_steps before.log led.frames)

      makes : MakesSteps {T = T} {E = E} h1 h2 result on_disk s
      makes =
          machine_steps h1 h2 result (append_all_steps before.log led.frames) s
          (subst (λ (p : Place). DoesSteps {T = T} {E = E} h1 h2 result (append_all_steps before.log led.frames) p) (sym is.runs.log.ends)
          ((appends led.frames (again_handed t wanted says pairs s is)).steps t))

      abbrev Holds : World → Type 0
      Holds w = CrashHoldsMap (before.log.end.seg + 33) (number_of before.ckpt.mark) wanted before.store.shape pairs w

      holds : (w : World) → MakesPrefix on_disk s h0.world w → Holds w
      holds = then_crash wanted says pairs there s h0.world is.runs is.keeps led.frames led.pages led.logged (led.says pairs wanted says s h0.world is.runs) (led.no_map pairs wanted says s h0.world is.runs) led.few segments

      crash_then : AllMoments h0 h2 Holds
      crash_then =
          joined h0 h1 h2 Holds
          (weaker h0 h1 (λ w. w ≡ h0.world) Holds (λ w same. holds w (0, omega arith, same)) (quiet t).moments)
          (weaker h1 h2 (MakesPrefix on_disk s h1.world) Holds (λ w some. holds w (subst (λ (v : World). MakesPrefix on_disk s v w) (quiet t).world some)) makes.moments)

  -- ---- it wasn't

  module _ (h2 : History) (failed : Failed) (log : LogEnd) (appends : (frames : List Frame) → SpellOperationRecords mid.stripe.outbox frames → AppendsAll {T = Unit {0}} {E = Failed} tells h1 h2 (Err failed) before.log log frames) where
    pub goes_on_shut : GoesOnInFrames tells before (record { store = shut mid; log = log; ckpt = before.ckpt; began = before.began; order = before.order }) h0 h2
    goes_on_shut = record {
      same = record { shape = applied.same.shape; region = applied.same.region; locks = applied.same.locks };
      ckpt = refl;
      began = refl;
      order = refl;
      files = applied.same.files;
      rises = λ on. absurd (false≢true on);
      clean = λ t on. absurd (false≢true on);
      ends = λ t on. absurd (false≢true on);
      disk = disk_then h2 (Err failed) log appends;
      grew = λ t segments on. absurd (false≢true on);
      whole = λ t on whole. absurd (false≢true on);
      runs = λ t on wanted says pairs s is segments. absurd (false≢true on);
      crash = λ t wanted says pairs s is segments. crash_then h2 (Err failed) log appends t wanted says pairs s is segments;
    }

  pub shut_again : (log : LogEnd) → IsEngine before → IsEngine (record { store = shut mid; log = log; ckpt = before.ckpt; began = before.began; order = before.order })
  shut_again log is = record {
    shape = is.shape ∙ sym applied.same.shape;
    mark = is.mark;
    from_one = λ on. absurd (false≢true on);
    size_to = λ on. absurd (false≢true on);
    room = λ on. absurd (false≢true on);
    sent = λ on. absurd (false≢true on);
  }

  -- ---- it was

  module _ (h2 : History) (log : LogEnd) (after : FrameStoreView) (appends : (frames : List Frame) → SpellOperationRecords mid.stripe.outbox frames → AppendsAll {T = Unit {0}} {E = Failed} tells h1 h2 (Ok tt) before.log log frames) (sends : SendsOutbox mid after) where
    abbrev engine : FrameRunning
    engine = record { store = after; log = log; ckpt = before.ckpt; began = before.began; order = before.order }

    handed_all : AppendsAll {T = Unit {0}} {E = Failed} tells h1 h2 (Ok tt) before.log log (records_of operations)
    handed_all = appends (records_of operations) frames_handed

    pub engine_again : IsEngine before → before.store.is_open ≡ true → IsEngine engine
    engine_again is opened = record {
      shape = is.shape ∙ sym (sends.same.shape ∙ applied.same.shape);
      mark = is.mark;
      from_one = λ on. subst (λ (l : LogEnd). 1 ≤ l.end.seg) (sym handed_all.log) (all_from before.log (records_of operations) (is.from_one opened));
      size_to = λ on. omega (arith, ap (λ (l : LogEnd). l.segment_bytes) handed_all.log, all_size before.log (records_of operations), is.size_to opened);
      room = λ on. is.room opened ∙ ap (λ (l : LockTable). Some (length l.ranges)) (sym (sends.same.locks ∙ applied.same.locks));
      sent = λ on. sends.empty;
    }

    is_open_then : after.is_open ≡ may_apply_more answer
    is_open_then = sends.is_open ∙ applied.is_open

    shape_then : after.shape ≡ before.store.shape
    shape_then = sends.same.shape ∙ applied.same.shape

    -- the frames are as they were
    same_file : (w : World) → file_in after.stripe w ≡ file_in mid.stripe w
    same_file w =
        let size : after.stripe.shape.page_size ≡ mid.stripe.shape.page_size = ap (λ (k : Kept). k.shape.page_size) sends.kept in
        λ i id. if sends.same.files i then stored w (size i) id else None

    module _ (t : tells) where
      same_pages : h2.world.pages ≡ h0.world.pages
      same_pages =
          ap (λ (w : World). w.pages) (handed_all.steps t).all ∙ (steps_change (append_all_steps before.log (records_of operations)) before.log.end h1.world).pages
          ∙ ap (λ (w : World). w.pages) (quiet t).world

      pages_after : pages_in_frames after h2.world ≡ pages_in_frames mid h0.world
      pages_after = ap (λ (pages : ℕ → File). pages_in_frames after (record h0.world { pages = pages })) same_pages ∙ sends.pages h0.world

      clean_then : HasCleanPages after h2.world
      clean_then =
          clean_there after h0.world h2.world same_pages
          (subst (λ (p : (PageId → Option (List ℕ)) × Kept). AreClean p.0 p.1) {x = (file_in mid.stripe h0.world, kept mid.stripe mid.seat)} {y = (file_in after.stripe h0.world, kept after.stripe after.seat)}
          (λ i. (sym (same_file h0.world) i, sym sends.kept i)) (applied.clean (told t)))

      grew_then : EndsThere before.log h0.world → HasSegmentsFor before.log 32 → GrewAtEnd before.log log h0.world h2.world
      grew_then ends segments =
          let all : h2.world ≡ world_after (append_all_steps before.log (records_of operations)) before.log.end h0.world =
          (handed_all.steps t).all ∙ ap (λ (w : World). world_after (append_all_steps before.log (records_of operations)) before.log.end w) (quiet t).world in
          subst (λ (q : LogEnd × World). GrewAtEnd before.log q.0 h0.world q.1) {x = (grown_all before.log (records_of operations), world_after (append_all_steps before.log (records_of operations)) before.log.end h0.world)} {y = (log, h2.world)}
          (λ i. (sym handed_all.log i, sym all i)) (all_grew before.log (records_of operations) h0.world ends (omega (arith, segments, handed.records)))

      module _ (on : after.is_open ≡ true) where
        goes : may_apply_more answer ≡ true
        goes = sym is_open_then ∙ on

        frames_after : frame_pages history finish ≡ pages_in_frames after h2.world
        frames_after = (applied.ended (sym sends.is_open ∙ on)).pages (told t) ∙ sym pages_after

        staying_then : (id : PageId) → IsStaying (kept_by finish) id ↔ IsDirtyPage after id
        staying_then id = subst (λ (k : Kept). IsStaying (kept_by finish) id ↔ IsStaying k id) (sym sends.kept) ((applied.ended (sym sends.is_open ∙ on)).dirty id)

        module _ (wanted : Shape) (says : List ℕ → ℕ) (pairs : Pairs) (s : State) (is : IsReplayingIn wanted says pairs before s h0.world) (segments : HasSegmentsFor before.log 32) where
          abbrev base : StoreState
          base = store t wanted says pairs s is

          abbrev step : Reapplies history base start finish (may_apply_more answer)
          step = again t wanted says pairs s is

          abbrev steps : List DiskStep
          steps = on_log (append_all_steps before.log step.frames)

          grown : log ≡ grown_all before.log step.frames
          grown = (appends step.frames (again_handed t wanted says pairs s is)).log

          world_is : h2.world ≡ worlds steps s h0.world
          world_is = (makes h2 (Ok tt) log appends t wanted says pairs s is segments).all ∙ ap (λ (w : World). worlds steps s w) (quiet t).world

          there_says : SayPagesOver base pairs pairs step.frames step.pages step.logged
          there_says = step.says pairs wanted says s h0.world is.runs

          no_map : ChangeNoMap before.store.shape step.frames
          no_map = step.no_map pairs wanted says s h0.world is.runs

          store_is : appended_to base step.frames step.pages step.logged ≡ running_in engine h2.world step.logged
          store_is = λ i. record { shape = sym shape_then i; pages = (step.pages_are goes ∙ frames_after) i; logged = step.logged; log = sym grown i; mark = before.ckpt.mark }

          replays_then : ReplaysOnIn wanted says pairs engine s h0.world h2.world
          replays_then = record {
            state = states steps s h0.world;
            is = record {
              logged = step.logged;
              names = record {
                once = (step.has goes).holds.once;
                each = λ part index below low_index.
                    let inside : part < finish.stripe.shape.partitions = subst (λ (k : Shape). part < k.partitions) (shape_then ∙ (step.has goes).shape) below in
                    let named = (step.has goes).logged part index inside low_index in
                    let stays = staying_then (page_id part index) in
                    (λ has. stays.0 (named.0 has), λ dirty. named.1 (stays.1 dirty));
              };
              runs = subst (λ (q : StoreState × World). RunsOver wanted says q.0 pairs (states steps s h0.world) q.1) {x = (appended_to base step.frames step.pages step.logged, worlds steps s h0.world)} {y = (running_in engine h2.world step.logged, h2.world)}
                  (λ i. (store_is i, sym world_is i)) (then_runs wanted says pairs base s h0.world is.runs is.keeps step.frames step.pages step.logged there_says no_map step.few segments);
              keeps = subst (λ (k : Shape). KeepsLines k 0 pairs [] (states steps s h0.world).first (appended (states steps s h0.world))) (sym shape_then)
                  (then_keeps wanted says pairs base s h0.world is.runs is.keeps step.frames step.pages step.logged there_says no_map step.few segments);
            };
            lasts = λ from left.
                subst (λ (q : Shape × World). AreLasting from left q.0 pairs s h0.world → AreLasting from left q.0 pairs (states steps s h0.world) q.1) {x = (before.store.shape, worlds steps s h0.world)} {y = (after.shape, h2.world)} (λ i. (sym shape_then i, sym world_is i))
                (still_lasts wanted says pairs base s h0.world is.runs is.keeps step.frames step.pages step.logged there_says no_map step.few segments from left);
          }

    -- ---- how it was evaluated

    open_ok : (accepted : Bool) → answer ≡ Ok accepted → after.is_open ≡ true
    open_ok accepted is = is_open_then ∙ ap (λ (r : Result Bool Stop). may_apply_more r) is

    evaluated : (t : tells) → AllWellFormed before.store.shape (pages_in_frames before.store h0.world) → IfOk answer (EvaluatesLine before.store.shape (Good cmd) (pages_in_frames before.store h0.world) (pages_in_frames after h2.world) was now)
    evaluated t well = by answer refl (applied.applies.evaluates (told t) (well_there t well))
      where
        by : (r : Result Bool Stop) → answer ≡ r → IfOk answer (EvaluatesLine start.stripe.shape (Good cmd) (frame_pages history start) (frame_pages history finish) was now)
            → IfOk answer (EvaluatesLine before.store.shape (Good cmd) (pages_in_frames before.store h0.world) (pages_in_frames after h2.world) was now)
        by (Ok accepted) is x =
            subst (λ (p : Shape × Partitions × Partitions). IfOk answer (EvaluatesLine p.0 (Good cmd) p.1 p.2 was now)) {x = (start.stripe.shape, frame_pages history start, frame_pages history finish)} {y = (before.store.shape, pages_in_frames before.store h0.world, pages_in_frames after h2.world)}
            (λ i. (applied.began.shape i, applied.began.pages (told t) i, frames_after t (open_ok accepted is) i)) x
        by (Err stop) is x = subst (λ (r : Result Bool Stop). IfOk r (EvaluatesLine before.store.shape (Good cmd) (pages_in_frames before.store h0.world) (pages_in_frames after h2.world) was now)) (sym is) tt

    -- ---- the pages that a checkpoint leaves as they are

    -- nothing was handed over
    same_again : (t : tells) → after.is_open ≡ true → ChangesNothing rtells history start finish → pages_in_frames after h2.world ≡ pages_in_frames before.store h0.world
    same_again t on nothing = sym (frames_after t on) ∙ nothing.told (told t) ∙ applied.began.pages (told t)

    -- or what was changed of the pages of a partition
    changed_again : (t : tells) → after.is_open ≡ true → HandsOverChange rtells history 0 None (part_of_line start.stripe.shape (Good cmd)) start finish → ChangesOwnPart (Good cmd) before.store.shape (pages_in_frames before.store h0.world) (pages_in_frames after h2.world)
    changed_again t on hands =
        subst (λ (p : Shape × Partitions × Partitions). ChangesOwnPart (Good cmd) p.0 p.1 p.2) {x = (start.stripe.shape, frame_pages history start, frame_pages history finish)} {y = (before.store.shape, pages_in_frames before.store h0.world, pages_in_frames after h2.world)}
        (λ i. (applied.began.shape i, applied.began.pages (told t) i, frames_after t on i)) (record {
          still = λ some. still_there_again (hands.noted (told t)) some;
          elsewhere = hands.elsewhere (told t);
        })
      where
        still_there_again : ChangesAsNoted start.stripe.shape.page_size (frame_pages history start (part_of_line start.stripe.shape (Good cmd))) (frame_pages history finish (part_of_line start.stripe.shape (Good cmd))) (noted_in hands.held (part_of_line start.stripe.shape (Good cmd)))
            → IsSome (frame_pages history start (part_of_line start.stripe.shape (Good cmd)) 0) → IsSome (frame_pages history finish (part_of_line start.stripe.shape (Good cmd)) 0)
        still_there_again noted some = elim (bool_cases (is_changed (noted_in hands.held (part_of_line start.stripe.shape (Good cmd)) 0))) [
          | inl changed ↦ ap is_some (noted.there 0 changed).is
          | inr not_it ↦ ap is_some (noted.unchanged 0 not_it) ∙ some
        ]

    whole_then : tells → after.is_open ≡ true → HasWholePages before.store h0.world → HasWholePages after h2.world
    whole_then t on whole = by answer refl applied.applies.leaves (evaluated t whole.well_formed)
      where
        unchanged : pages_in_frames after h2.world ≡ pages_in_frames before.store h0.world → HasWholePages after h2.world
        unchanged pages = whole_same before.store after h0.world h2.world shape_then pages (same_pages t) whole

        by : (r : Result Bool Stop) → answer ≡ r → LeavesApplied rtells history state cmd start finish r → IfOk r (EvaluatesLine before.store.shape (Good cmd) (pages_in_frames before.store h0.world) (pages_in_frames after h2.world) was now) → HasWholePages after h2.world
        by (Ok true) is leaves line =
            whole_changed (Good cmd) before.store after h0.world h2.world shape_then (same_pages t) (changed_again t on (leaves.1.hands refl)) (sym line.accepted_is) line.map line.well_formed whole
        by (Ok false) is leaves line = unchanged (same_again t on (leaves.1.refused refl))
        by (Err (Halted halt)) is leaves line = unchanged (same_again t on leaves.0.nothing)
        by (Err (Faulted fault)) is leaves line = absurd (false≢true (sym (is_open_then ∙ ap (λ (r : Result Bool Stop). may_apply_more r) is) ∙ on))

    pub goes_on_again : (tells → EndsThere before.log h0.world) → GoesOnInFrames tells before engine h0 h2
    goes_on_again ends = record {
      same = record { shape = shape_then; region = sends.same.region ∙ applied.same.region; locks = sends.same.locks ∙ applied.same.locks };
      ckpt = refl;
      began = refl;
      order = refl;
      files = sends.same.files ∙ applied.same.files;
      rises = λ on. omega (arith, ap (λ (l : LogEnd). l.end.seg) handed_all.log, all_rises before.log (records_of operations), handed.records);
      clean = λ t on. clean_then t;
      ends = λ t on. handed_all.ends t;
      disk = disk_then h2 (Ok tt) log appends;
      grew = λ t segments on. grew_then t (ends t) segments;
      whole = whole_then;
      runs = λ t on wanted says pairs s is segments. replays_then t on wanted says pairs s is segments;
      crash = λ t wanted says pairs s is segments. crash_then h2 (Ok tt) log appends t wanted says pairs s is segments;
    }

    -- ---- what else it left

    nothing_appended : (t : tells) → (answer ≡ Ok true → ⊥) → h2.world ≡ h0.world
    nothing_appended t not =
        (handed_all.steps t).all ∙ ap (λ (os : List Operation). world_after (append_all_steps before.log (records_of os)) before.log.end h1.world) (handed.none not) ∙ (quiet t).world

    still_there : (t : tells) (halt : Halt) → answer ≡ Err (Halted halt) → pages_in_frames after h2.world ≡ pages_in_frames before.store h0.world
    still_there t halt is =
        let leaves = subst (λ (r : Result Bool Stop). LeavesApplied rtells history state cmd start finish r) is applied.applies.leaves in
        let on : after.is_open ≡ true = is_open_then ∙ ap (λ (r : Result Bool Stop). may_apply_more r) is in
        sym (frames_after t on) ∙ leaves.0.nothing.told (told t) ∙ applied.began.pages (told t)

    -- ---- the pages of any store

    kept_again : (t : tells) (may_change : ℕ → Bool) → AllowsLine may_change before.store.shape (Good cmd) → after.is_open ≡ true → KeepsPagesBut may_change (pages_in_frames before.store h0.world) (pages_in_frames after h2.world)
    kept_again t may_change allows on = by answer refl applied.applies.leaves
      where
        by : (r : Result Bool Stop) → answer ≡ r → LeavesApplied rtells history state cmd start finish r → KeepsPagesBut may_change (pages_in_frames before.store h0.world) (pages_in_frames after h2.world)
        by (Ok true) is leaves = kept_but_own may_change before.store.shape cmd (pages_in_frames before.store h0.world) (pages_in_frames after h2.world) (leaves.1.changes refl) allows (changed_again t on (leaves.1.hands refl))
        by (Ok false) is leaves = kept_equal may_change (pages_in_frames before.store h0.world) (pages_in_frames after h2.world) (same_again t on (leaves.1.refused refl))
        by (Err (Halted halt)) is leaves = kept_equal may_change (pages_in_frames before.store h0.world) (pages_in_frames after h2.world) (same_again t on leaves.0.nothing)
        by (Err (Faulted fault)) is leaves = absurd (false≢true (sym (is_open_then ∙ ap (λ (r : Result Bool Stop). may_apply_more r) is) ∙ on))

    met_again : (t : tells) (may_change : ℕ → Bool) → AllowsLine may_change before.store.shape (Good cmd) → (id : PageId) → IsErrOf answer (Faulted (BadPage id)) → MeetsBadPage tells may_change before.store.shape (pages_in_frames before.store h0.world) id
    met_again t may_change allows id bad =
        met_told rtells tells told may_change before.store.shape (pages_in_frames before.store h0.world) id
        (subst (λ (p : Shape × Partitions). MeetsBadPage rtells may_change p.0 p.1 id) {x = (start.stripe.shape, frame_pages history start)} {y = (before.store.shape, pages_in_frames before.store h0.world)} (λ i. (applied.began.shape i, applied.began.pages (told t) i))
        (applied.applies.meets (told t) may_change (subst (λ (k : Shape). AllowsLine may_change k (Good cmd)) (sym applied.began.shape) allows) id bad))

    pub evaluates_again : EvaluatesAgain tells cmd before engine h0.world h2.world was now answer
    evaluates_again = record {
      is_open = is_open_then;
      evaluates = λ t well. evaluated t well;
      unlogged = λ not. handed_all.log ∙ ap (λ (os : List Operation). grown_all before.log (records_of os)) (handed.none not);
      refused = λ t not. nothing_appended t not;
      halted = λ t halt is. still_there t halt is;
      sound = λ t well id is. applied.applies.sound (told t) (well_there t well) id is;
      meets = λ t may_change allows. record { keeps = kept_again t may_change allows; meets = met_again t may_change allows };
    }
