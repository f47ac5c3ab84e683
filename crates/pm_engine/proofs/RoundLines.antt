-- The lines of a round over page frames as lines that a store does while it runs, once what they handed over is appended.
use Rattle.std.proofs.Common.{◌≡◌, ℕ, zero, suc, ◌+◌, ◌*◌, ◌<◌, ◌≤◌, true, List, [], ◌∷◌, ◌++◌, length, take, drop, Option, Some, None, Result, Ok, Err, refl, sym, ap, ◌∙◌, subst, arith}
use Rattle.std.specs.Prelude.{◌↔◌, Bool, if◌then◌else◌}
use Rattle.std.specs.List.{All}
use Rattle.std.proofs.lemmas.Bool.{false≢true}
use Rattle.pm_types.specs.declared.fault.PageFault.TheVariants.{BadPage}
use Rattle.pm_types.specs.declared.page_id.PageId.{PageId}
use Rattle.pm_types.specs.declared.place.Place.{Place}
use Rattle.pm_types.specs.declared.shape.Shape.{Shape}
use Rattle.pm_types.specs.Ids.{page_id}
use Rattle.pm_frame.specs.Frames.{Frame}
use Rattle.pm_disk.specs.declared.failed.Failed.{Failed}
use Rattle.pm_disk.specs.Files.{File}
use Rattle.pm_disk.specs.Moments.{History, AllMoments}
use Rattle.pm_disk.specs.States.{DeviceState}
use Rattle.pm_disk.specs.Worlds.{World}
use Rattle.pm_disk.proofs.Chain.{weaker, joined}
use Rattle.pm_records.specs.LogSteps.{DoesSteps}
use Rattle.pm_records.specs.Operations.{Operation, operations_bytes}
use Rattle.pm_records.proofs.QuietLog.{steps_change}
use Rattle.pm_model.specs.declared.line.Line.{Line}
use Rattle.pm_model.specs.Eval.{Pairs, accepted}
use Rattle.pm_model.specs.ReplyLists.{ReplyList}
use Rattle.pm_segments.specs.Ends.{LogEnd}
use Rattle.pm_core.specs.BasePages.{Partitions}
use Rattle.pm_core.specs.Calls.{ChangesDisk, MakesPrefix, MakesSteps}
use Rattle.pm_core.specs.Held.{AllWellFormed, pairs_in}
use Rattle.pm_core.specs.Machine.{DiskStep, CanAll, states, worlds}
use Rattle.pm_core.specs.Rounds.{on_log}
use Rattle.pm_core.proofs.OnlyDisk.{logs_disk, same_disk}
use Rattle.pm_locks.specs.Sight.{LockTable}
use Rattle.pm_stripe.specs.declared.bound.Bound.{Bound}
use Rattle.pm_stripe.specs.Kept.{Kept, AreClean, IsStaying}
use Rattle.pm_stripe.specs.Reads.{stored}
use Rattle.pm_stripe.specs.Shown.{kept_by}
use Rattle.pm_stripe.specs.Stripes.{kept, file_in}
use Rattle.pm_engine.specs.declared.frame_lines.Stop.{Stop}
use Rattle.pm_engine.specs.declared.frame_lines.Stop.TheVariants.{Halted, Faulted}
use Rattle.pm_engine.specs.declared.frame_rounds.RoundEnd.{RoundEnd}
use Rattle.pm_engine.specs.AppendRuns.{AppendsAll, append_all_steps, grown_all}
use Rattle.pm_engine.specs.FrameCommands.{frame_pages}
use Rattle.pm_engine.specs.Engines.{FrameRunning, IsEngine, running_in, map_in, HasDoneLines, DoesRoundLines, LosesRoundLines}
use Rattle.pm_engine.specs.FramedStores.{HasStore, StepsStore}
use Rattle.pm_engine.specs.FrameHosts.{RunsRound, SendsOutbox, ChangesNoWorld, may_go_on}
use Rattle.pm_engine.specs.FrameRounds.{HasDone, LeavesRound, EvaluatesLines, lines_from}
use Rattle.pm_engine.specs.FrameStores.{FrameStoreView, pages_in_frames, IsDirtyPage, HasCleanPages, shut}
use Rattle.pm_engine.specs.MetPages.{AllowsLine, KeepsPagesBut, MeetsBadPage}
use Rattle.pm_engine.specs.OutboxLogs.{SpellOperationRecords, SpellNumbers, HasNumberRoom, records_of, numbers_of}
use Rattle.pm_engine.specs.RunningStores.{number_of}
use Rattle.pm_engine.specs.RunningLines.{HasRun, CrashHoldsLines}
use Rattle.pm_engine.specs.RunningSteps.{appended_to}
use Rattle.pm_engine.specs.RunningStores.{StoreState, HasSegmentsFor}
use Rattle.pm_engine.proofs.CheckpointedLines.{between_crash}
use Rattle.pm_engine.proofs.FramedStores.{lines_step}
use Rattle.pm_engine.proofs.HandedOperations.{HandsLines, lines_hand}
use Rattle.pm_engine.proofs.LentReaders.{clean_there}
use Rattle.pm_engine.proofs.LineChains.{all_done, all_few}
use Rattle.pm_engine.proofs.MetPages.{done_keeps}
use Rattle.pm_engine.proofs.OperationSteps.{machine_steps}
use Rattle.pm_engine.proofs.GrownLogs.{all_rises, all_size, all_from}
use Rattle.pm_engine.proofs.RunningLines.{crash_further}
use Rattle.pm_engine.proofs.ToldFaults.{met_told}

-- ---- lists

take_few : (n : ℕ) (xs : List Line) → length (take n xs) ≤ n
take_few zero xs = omega arith
take_few (suc n) [] = omega arith
take_few (suc n) (x ∷ xs) = omega (arith, take_few n xs)

pub numbers_long : (os : List Operation) → length (numbers_of os) ≡ length os
numbers_long [] = refl
numbers_long (o ∷ os) = ap (λ n. suc n) (numbers_long os)

-- ---- up to where the lines were done

module _ {Q R : Type 0} (tells : Type 0) (history : R → History) (state : R → DeviceState) (number : ℕ) (lines : List Line) (b c : Bound Q R) (was now : ReplyList) where
  -- the worker stood there once the lines were done, and handed nothing over since
  record DoneUpTo (stop : Option Stop) : Type 0 where
    upto : Bound Q R
    done : HasDone tells history state number lines b upto was now
    outbox : c.stripe.outbox ≡ upto.stripe.outbox
    finish : may_go_on stop ≡ true → upto ≡ c

  done_up_to : (stop : Option Stop) → LeavesRound tells history state number lines b c was now stop → DoneUpTo stop
  done_up_to None x = record { upto = c; done = x; outbox = refl; finish = λ _. refl }
  done_up_to (Some (Halted halt)) x = record { upto = c; done = x; outbox = refl; finish = λ _. refl }
  done_up_to (Some (Faulted fault)) x = record { upto = x.before; done = x.done; outbox = x.outbox; finish = λ on. absurd (false≢true on) }

module _ {Q R : Type 0} (tells rtells : Type 0) (history : R → History) (state : R → DeviceState) (first from : ℕ) (lines : List Line) (before : FrameRunning) (mid : FrameStoreView) (was now : ReplyList) (back : R) (end : RoundEnd)
    (h0 h1 : History) (round : RunsRound Q rtells history state first from lines before.store mid h0.world was now back end) (told : tells → rtells) (quiet : tells → ChangesNoWorld h0 h1) (sent : before.store.stripe.outbox ≡ []) where
  abbrev xs : List Line
  xs = lines_from from end.done lines

  abbrev start : Bound Q R
  start = round.start

  up : DoneUpTo rtells history state (first + from) xs start round.finish was now end.stop
  up = done_up_to rtells history state (first + from) xs start round.finish was now end.stop round.answers.leaves

  abbrev upto : Bound Q R
  upto = up.upto

  few_lines : length xs ≤ end.done
  few_lines = take_few end.done (drop from lines)

  -- ---- what they handed over

  handed : HandsLines rtells history (first + from) xs start upto
  handed = lines_hand rtells history xs (first + from) start upto was now up.done.does

  abbrev operations : List Operation
  operations = handed.hands.operations

  began_empty : start.stripe.outbox ≡ []
  began_empty = round.began.outbox ∙ sent

  outbox_is : mid.stripe.outbox ≡ operations_bytes operations
  outbox_is = round.outbox ∙ up.outbox ∙ handed.hands.grows ∙ ap (λ bs. bs ++ operations_bytes operations) began_empty

  frames_handed : SpellOperationRecords mid.stripe.outbox (records_of operations)
  frames_handed = record { operations = operations; are = handed.hands.are; bytes_are = outbox_is; frames_are = refl }

  numbers_handed : SpellNumbers mid.stripe.outbox (numbers_of operations)
  numbers_handed = record { operations = operations; are = handed.hands.are; bytes_are = outbox_is; numbers_are = refl }

  -- an order has room for their numbers that has room for one of each line
  pub number_room : (count capacity : ℕ) → count + length lines ≤ capacity → HasNumberRoom mid.stripe.outbox count capacity
  number_room count capacity room = record {
    numbers = numbers_of operations;
    spelled = numbers_handed;
    fits = omega (arith, room, numbers_long operations, handed.hands.few, few_lines, round.answers.inside);
  }

  -- ---- where the pages are told

  module _ (t : tells) where
    well_there : AllWellFormed before.store.shape (pages_in_frames before.store h0.world) → AllWellFormed start.stripe.shape (frame_pages history start)
    well_there well = subst (λ (p : Shape × Partitions). AllWellFormed p.0 p.1) (λ i. (sym round.began.shape i, sym (round.began.pages (told t)) i)) well

    pub no_bad_page : AllWellFormed before.store.shape (pages_in_frames before.store h0.world) → (id : PageId) → end.stop ≡ Some (Faulted (BadPage id)) → ⊥
    no_bad_page well = round.answers.sound (told t) (well_there well)

    -- a page that couldn't be used is one that a line met
    meets_there : (may_change : ℕ → Bool) → All (AllowsLine may_change before.store.shape) lines → (id : PageId) → end.stop ≡ Some (Faulted (BadPage id))
        → MeetsBadPage tells may_change before.store.shape (pages_in_frames before.store h0.world) id
    meets_there may_change allows id is =
        let met : MeetsBadPage rtells may_change start.stripe.shape (frame_pages history start) id =
        round.answers.meets (told t) may_change (subst (λ (s : Shape). All (AllowsLine may_change s) lines) (sym round.began.shape) allows) id is in
        met_told rtells tells told may_change before.store.shape (pages_in_frames before.store h0.world) id
        (subst (λ (p : Shape × Partitions). MeetsBadPage rtells may_change p.0 p.1 id) {x = (start.stripe.shape, frame_pages history start)} {y = (before.store.shape, pages_in_frames before.store h0.world)}
        (λ i. (round.began.shape i, round.began.pages (told t) i)) met)

    numbers_are : AllWellFormed before.store.shape (pages_in_frames before.store h0.world) → numbers_of operations ≡ accepted before.store.shape (first + from) xs (map_in before h0.world)
    numbers_are well =
        handed.numbers (told t) (well_there well)
        ∙ (λ i. accepted (round.began.shape i) (first + from) xs (pairs_in (round.began.shape i).partitions (round.began.pages (told t) i)))

    module _ (wanted : Shape) (says : List ℕ → ℕ) (low : ℕ) (pairs : Pairs) (done : List Line) (has : HasDoneLines wanted says low pairs done before h0.world) where
      abbrev store : StoreState
      store = running_in before h0.world has.logged

      has_store : HasStore history store start
      has_store = record {
        shape = sym round.began.shape;
        pages = sym (round.began.pages (told t));
        logged = λ part index below low_index.
            let inside : part < before.store.shape.partitions = subst (λ (s : Shape). part < s.partitions) round.began.shape below in
            let named = has.names.each part index inside low_index in
            let dirty = round.began.dirty (page_id part index) in
            (λ is. dirty.1 (named.0 is), λ stay. named.1 (dirty.0 stay));
        holds = has.has.runs.holds;
        settled = round.settled;
      }

      steps : StepsStore history xs store start upto
      steps = lines_step rtells history (told t) xs (first + from) store start upto was now has_store up.done.does

      steps_handed : SpellOperationRecords mid.stripe.outbox steps.frames
      steps_handed = subst (λ (bs : List ℕ). SpellOperationRecords bs steps.frames) (sym (round.outbox ∙ up.outbox))
          (steps.hands [] (record { operations = []; are = tt; bytes_are = began_empty; frames_are = refl }))

      steps_few : length steps.frames ≤ 33 * length lines
      steps_few = omega (arith, all_few xs store steps.frames (frame_pages history upto) steps.logged steps.steps, few_lines, round.answers.inside)

  -- ---- their numbers were noted

  all_noted : (order : List ℕ) → ((numbers : List ℕ) → SpellNumbers mid.stripe.outbox numbers → order ≡ before.order ++ numbers)
      → tells → AllWellFormed before.store.shape (pages_in_frames before.store h0.world) → order ≡ before.order ++ accepted before.store.shape (first + from) xs (map_in before h0.world)
  all_noted order notes t well =
      notes (numbers_of operations) numbers_handed ∙ ap (λ (ns : List ℕ). before.order ++ ns) (numbers_are t well)

  -- ---- and it was appended, or not

  module _ {T E : Type 0} (h2 : History) (result : Result T E) (log : LogEnd) (appends : (frames : List Frame) → SpellOperationRecords mid.stripe.outbox frames → AppendsAll {T = T} {E = E} tells h1 h2 result before.log log frames) where
    handed_appends : AppendsAll {T = T} {E = E} tells h1 h2 result before.log log (records_of operations)
    handed_appends = appends (records_of operations) frames_handed

    pub round_disk : tells → AllMoments h0 h2 (ChangesDisk h0.world)
    round_disk t =
        joined h0 h1 h2 (ChangesDisk h0.world) (same_disk h0 h1 (quiet t).moments)
        (subst (λ (w : World). AllMoments h1 h2 (ChangesDisk w)) (quiet t).world (logs_disk h1 h2 (append_all_steps before.log (records_of operations)) before.log.end (handed_appends.steps t).moments))

    module _ (t : tells) (wanted : Shape) (says : List ℕ → ℕ) (low : ℕ) (pairs : Pairs) (done : List Line) (has : HasDoneLines wanted says low pairs done before h0.world) (segments : HasSegmentsFor before.log (33 * length lines)) where
      abbrev there : StoreState
      there = store t wanted says low pairs done has

      abbrev led : StepsStore history xs there start upto
      led = steps t wanted says low pairs done has

      abbrev next : StoreState
      next = appended_to there led.frames (frame_pages history upto) led.logged

      abbrev on_disk : List DiskStep
      on_disk = on_log (append_all_steps before.log led.frames)

      all_lines : CanAll says on_disk has.state h0.world × HasRun wanted says low pairs (done ++ xs) next (states on_disk has.state h0.world) (worlds on_disk has.state h0.world)
      all_lines =
          all_done wanted says low pairs xs done there has.state h0.world led.frames (frame_pages history upto) led.logged has.has led.steps (omega (arith, segments, steps_few t wanted says low pairs done has))

      makes : MakesSteps {T = T} {E = E} h1 h2 result on_disk has.state
      makes =
          machine_steps h1 h2 result (append_all_steps before.log led.frames) has.state
          (subst (λ (p : Place). DoesSteps {T = T} {E = E} h1 h2 result (append_all_steps before.log led.frames) p) (sym has.has.runs.log.ends)
          ((appends led.frames (steps_handed t wanted says low pairs done has)).steps t))

      abbrev Holds : World → Type 0
      Holds w = CrashHoldsLines (before.log.end.seg + (33 * length lines + 1)) (number_of before.ckpt.mark) wanted before.store.shape pairs (done ++ xs) w

      holds : (w : World) → MakesPrefix on_disk has.state h0.world w → Holds w
      holds w some =
          crash_further (next.log.end.seg + 1) (number_of next.mark) (before.log.end.seg + (33 * length lines + 1)) (number_of before.ckpt.mark) wanted before.store.shape pairs (done ++ xs) w
          (omega (arith, all_rises before.log led.frames, steps_few t wanted says low pairs done has)) (omega arith)
          (between_crash wanted says low pairs done (done ++ xs) there next has.state h0.world w on_disk has.has all_lines.0 all_lines.1 some)

      pub round_crash : AllMoments h0 h2 Holds
      round_crash =
          joined h0 h1 h2 Holds
          (weaker h0 h1 (λ w. w ≡ h0.world) Holds (λ w same. holds w (0, omega arith, same)) (quiet t).moments)
          (weaker h1 h2 (MakesPrefix on_disk has.state h1.world) Holds (λ w some. holds w (subst (λ (v : World). MakesPrefix on_disk has.state v w) (quiet t).world some)) makes.moments)

  -- ---- it wasn't

  pub loses_lines : (h2 : History) (failed : Failed) (log : LogEnd) (order : List ℕ) → ((frames : List Frame) → SpellOperationRecords mid.stripe.outbox frames → AppendsAll {T = Unit {0}} {E = Failed} tells h1 h2 (Err failed) before.log log frames)
      → ((numbers : List ℕ) → SpellNumbers mid.stripe.outbox numbers → order ≡ before.order ++ numbers)
      → LosesRoundLines tells h0 h2 first from lines before (record { store = shut mid; log = log; ckpt = before.ckpt; began = before.began; order = order })
  loses_lines h2 failed log order appends notes = record {
    tried = end.done;
    inside = round.answers.inside;
    same = record { shape = round.same.shape; region = round.same.region; locks = round.same.locks };
    ckpt = refl;
    began = refl;
    is_open = refl;
    order = all_noted order notes;
    crash = λ t wanted says low pairs done has segments. round_crash h2 (Err failed) log appends t wanted says low pairs done has segments;
    disk = round_disk h2 (Err failed) log appends;
  }

  pub shut_engine : (log : LogEnd) (order : List ℕ) → IsEngine before → IsEngine (record { store = shut mid; log = log; ckpt = before.ckpt; began = before.began; order = order })
  shut_engine log order is = record {
    shape = is.shape ∙ sym round.same.shape;
    mark = is.mark;
    from_one = λ on. absurd (false≢true on);
    size_to = λ on. absurd (false≢true on);
    room = λ on. absurd (false≢true on);
    sent = λ on. absurd (false≢true on);
  }

  -- ---- it was

  module _ (h2 : History) (log : LogEnd) (order : List ℕ) (after : FrameStoreView) (appends : (frames : List Frame) → SpellOperationRecords mid.stripe.outbox frames → AppendsAll {T = Unit {0}} {E = Failed} tells h1 h2 (Ok tt) before.log log frames)
      (notes : (numbers : List ℕ) → SpellNumbers mid.stripe.outbox numbers → order ≡ before.order ++ numbers) (sends : SendsOutbox mid after) where
    abbrev engine : FrameRunning
    engine = record { store = after; log = log; ckpt = before.ckpt; began = before.began; order = order }

    handed_all : AppendsAll {T = Unit {0}} {E = Failed} tells h1 h2 (Ok tt) before.log log (records_of operations)
    handed_all = appends (records_of operations) frames_handed

    pub done_engine : IsEngine before → before.store.is_open ≡ true → IsEngine engine
    done_engine is opened = record {
      shape = is.shape ∙ sym (sends.same.shape ∙ round.same.shape);
      mark = is.mark;
      from_one = λ on. subst (λ (l : LogEnd). 1 ≤ l.end.seg) (sym handed_all.log) (all_from before.log (records_of operations) (is.from_one opened));
      size_to = λ on. omega (arith, ap (λ (l : LogEnd). l.segment_bytes) handed_all.log, all_size before.log (records_of operations), is.size_to opened);
      room = λ on. is.room opened ∙ ap (λ (l : LockTable). Some (length l.ranges)) (sym (sends.same.locks ∙ round.same.locks));
      sent = λ on. sends.empty;
    }

    is_open_then : after.is_open ≡ may_go_on end.stop
    is_open_then = sends.is_open ∙ round.is_open

    shape_then : after.shape ≡ before.store.shape
    shape_then = sends.same.shape ∙ round.same.shape

    -- the frames are as they were
    same_file : (w : World) → file_in after.stripe w ≡ file_in mid.stripe w
    same_file w =
        let size : after.stripe.shape.page_size ≡ mid.stripe.shape.page_size = ap (λ (k : Kept). k.shape.page_size) sends.kept in
        λ i id. if sends.same.files i then stored w (size i) id else None

    module _ (t : tells) where
      same_pages : h2.world.pages ≡ h0.world.pages
      same_pages =
          ap (λ (w : World). w.pages) (handed_all.steps t).all ∙ (steps_change (append_all_steps before.log (records_of operations)) before.log.end h1.world).pages
          ∙ ap (λ (w : World). w.pages) (quiet t).world

      pages_after : pages_in_frames after h2.world ≡ pages_in_frames mid h0.world
      pages_after = ap (λ (pages : ℕ → File). pages_in_frames after (record h0.world { pages = pages })) same_pages ∙ sends.pages h0.world

      clean_after : HasCleanPages after h2.world
      clean_after =
          clean_there after h0.world h2.world same_pages
          (subst (λ (p : (PageId → Option (List ℕ)) × Kept). AreClean p.0 p.1) {x = (file_in mid.stripe h0.world, kept mid.stripe mid.seat)} {y = (file_in after.stripe h0.world, kept after.stripe after.seat)}
          (λ i. (sym (same_file h0.world) i, sym sends.kept i)) (round.clean (told t)))

      module _ (on : after.is_open ≡ true) where
        goes_on : may_go_on end.stop ≡ true
        goes_on = sym is_open_then ∙ on

        frames_after : frame_pages history upto ≡ pages_in_frames after h2.world
        frames_after = ap (λ (b : Bound Q R). frame_pages history b) (up.finish goes_on) ∙ (round.ended (sym sends.is_open ∙ on)).pages (told t) ∙ sym pages_after

        evaluates_all : AllWellFormed before.store.shape (pages_in_frames before.store h0.world) → EvaluatesLines before.store.shape xs (pages_in_frames before.store h0.world) (pages_in_frames after h2.world) was now
        evaluates_all well =
            subst (λ (p : Shape × Partitions × Partitions). EvaluatesLines p.0 xs p.1 p.2 was now) {x = (start.stripe.shape, frame_pages history start, frame_pages history upto)} {y = (before.store.shape, pages_in_frames before.store h0.world, pages_in_frames after h2.world)}
            (λ i. (round.began.shape i, round.began.pages (told t) i, frames_after i)) (up.done.evaluates (told t) (well_there t well))

        keeps_all : (may_change : ℕ → Bool) → All (AllowsLine may_change before.store.shape) xs → KeepsPagesBut may_change (pages_in_frames before.store h0.world) (pages_in_frames after h2.world)
        keeps_all may_change allows =
            subst (λ (p : Partitions × Partitions). KeepsPagesBut may_change p.0 p.1) {x = (frame_pages history start, frame_pages history upto)} {y = (pages_in_frames before.store h0.world, pages_in_frames after h2.world)}
            (λ i. (round.began.pages (told t) i, frames_after i))
            (done_keeps rtells (told t) history may_change (first + from) xs start upto was now up.done.does (subst (λ (s : Shape). All (AllowsLine may_change s) xs) (sym round.began.shape) allows))

        staying_then : (id : PageId) → IsStaying (kept_by upto) id ↔ IsDirtyPage after id
        staying_then id =
            subst (λ (p : Kept × Kept). IsStaying p.0 id ↔ IsStaying p.1 id) {x = (kept_by round.finish, kept mid.stripe mid.seat)} {y = (kept_by upto, kept after.stripe after.seat)}
            (λ i. (kept_by (sym (up.finish goes_on) i), sym sends.kept i)) ((round.ended (sym sends.is_open ∙ on)).dirty id)

        runs_all : (wanted : Shape) (says : List ℕ → ℕ) (low : ℕ) (pairs : Pairs) (done : List Line) → HasDoneLines wanted says low pairs done before h0.world → HasSegmentsFor before.log (33 * length lines)
            → HasDoneLines wanted says low pairs (done ++ xs) engine h2.world
        runs_all wanted says low pairs done has segments =
            let led = steps t wanted says low pairs done has in
            let there = store t wanted says low pairs done has in
            let on_disk = on_log (append_all_steps before.log led.frames) in
            let all = all_lines h2 (Ok tt) log appends t wanted says low pairs done has segments in
            let made = makes h2 (Ok tt) log appends t wanted says low pairs done has segments in
            let grown : log ≡ grown_all before.log led.frames = (appends led.frames (steps_handed t wanted says low pairs done has)).log in
            let world_is : h2.world ≡ worlds on_disk has.state h0.world = made.all ∙ ap (λ (w : World). worlds on_disk has.state w) (quiet t).world in
            record {
              state = states on_disk has.state h0.world;
              logged = led.logged;
              names = record {
                once = led.has.holds.once;
                each = λ part index below low_index.
                    let inside : part < upto.stripe.shape.partitions = subst (λ (s : Shape). part < s.partitions) (shape_then ∙ led.has.shape) below in
                    let named = led.has.logged part index inside low_index in
                    let stays = staying_then (page_id part index) in
                    (λ is. stays.0 (named.0 is), λ dirty. named.1 (stays.1 dirty));
              };
              has = subst (λ (p : StoreState × World). HasRun wanted says low pairs (done ++ xs) p.0 (states on_disk has.state h0.world) p.1)
                  {x = (appended_to there led.frames (frame_pages history upto) led.logged, worlds on_disk has.state h0.world)} {y = (running_in engine h2.world led.logged, h2.world)}
                  (λ i. (record { shape = sym shape_then i; pages = frames_after i; logged = led.logged; log = sym grown i; mark = before.ckpt.mark }, sym world_is i)) all.1;
            }

    pub does_lines : DoesRoundLines tells h0 h2 first from lines before engine was now end
    does_lines = record {
      inside = round.answers.inside;
      all = round.answers.all;
      room = round.answers.room;
      spare = round.answers.spare;
      same = record { shape = shape_then; region = sends.same.region ∙ round.same.region; locks = sends.same.locks ∙ round.same.locks };
      ckpt = refl;
      began = refl;
      files = sends.same.files ∙ round.same.files;
      is_open = is_open_then;
      rises = omega (arith, ap (λ (l : LogEnd). l.end.seg) handed_all.log, all_rises before.log (records_of operations), handed.hands.records, few_lines);
      clean = λ t on. clean_after t;
      ends = λ t. handed_all.ends t;
      evaluates = λ t on well. evaluates_all t on well;
      order = all_noted order notes;
      runs = λ t on wanted says low pairs done has segments. runs_all t on wanted says low pairs done has segments;
      crash = λ t wanted says low pairs done has segments. round_crash h2 (Ok tt) log appends t wanted says low pairs done has segments;
      disk = round_disk h2 (Ok tt) log appends;
      sound = λ t well. no_bad_page t well;
      keeps = λ t on may_change allows. keeps_all t on may_change allows;
      meets = λ t may_change allows. meets_there t may_change allows;
    }
