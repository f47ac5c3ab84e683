-- What the calls of a batch leave of an engine over page frames.
use Rattle.std.proofs.Common.{◌≡◌, ℕ, ◌+◌, ◌*◌, ◌<◌, ◌≤◌, List, [], ◌∷◌, ◌++◌, length, take, true, false, Some, inl}
use Rattle.std.proofs.Common.{Result, Ok, Err, refl, sym, ◌∙◌, ap, subst, arith, append-nil}
use Rattle.std.specs.Prelude.{Bool, IsErrOf, OnOk}
use Rattle.std.specs.List.{All}
use Rattle.std.proofs.lemmas.List.{length-take-le, take-take}
use Rattle.std.proofs.lemmas.List.Elements.{All-take}
use Rattle.std.proofs.Math.Seq.{take-length}
use Rattle.pm_types.specs.declared.fault.PageFault.{PageFault}
use Rattle.pm_types.specs.declared.fault.PageFault.TheVariants as page
use Rattle.pm_types.specs.declared.fault.StoreFault.{StoreFault}
use Rattle.pm_types.specs.declared.fault.StoreFault.TheVariants.{Failed, Memory, BadPage}
use Rattle.pm_types.specs.declared.fault.Lack.{Lack}
use Rattle.pm_types.specs.declared.fault.Lack.TheVariants.{Frames}
use Rattle.pm_types.specs.declared.page_id.PageId.{PageId}
use Rattle.pm_types.specs.declared.shape.Shape.{Shape}
use Rattle.pm_types.specs.Faults.{store_fault_of}
use Rattle.pm_types.specs.Ids.{page_id}
use Rattle.pm_disk.specs.Moments.{History, AllMoments}
use Rattle.pm_disk.specs.Worlds.{World}
use Rattle.pm_disk.proofs.Chain.{weaker}
use Rattle.pm_segments.specs.Ends.{LogEnd, EndsThere}
use Rattle.pm_model.specs.declared.line.Line.{Line}
use Rattle.pm_model.specs.Eval.{Pairs, accepted, after, after_all, reply_to}
use Rattle.pm_model.specs.ReplyLists.{ReplyList, with_replies}
use Rattle.pm_ckpt.specs.Marked.{Kept}
use Rattle.pm_core.specs.BasePages.{Partitions}
use Rattle.pm_core.specs.Calls.{ChangesDisk}
use Rattle.pm_core.specs.Held.{AllWellFormed, pairs_in}
use Rattle.pm_core.proofs.OnlyDisk.{disk_same}
use Rattle.pm_engine.specs.declared.frame_lines.Stop.{Stop}
use Rattle.pm_engine.specs.declared.frame_lines.Stop.TheVariants.{Faulted}
use Rattle.pm_engine.specs.declared.frame_rounds.RoundEnd.{RoundEnd}
use Rattle.pm_engine.specs.FrameBatches.{HasNumbersIn, TakesNumbersIn, MayGoOn, KeepsEngine, RunsFrameBatch}
use Rattle.pm_engine.specs.Engines.{FrameRunning, HasDoneLines, IsSameEngine, NamesDirty, running_in, map_in, DoesRoundLines, LosesRoundLines}
use Rattle.pm_engine.specs.FrameHosts.{ChangesNoWorld, may_go_on}
use Rattle.pm_engine.specs.FrameRounds.{EvaluatesLines, lines_from}
use Rattle.pm_engine.specs.FrameStores.{pages_in_frames, HasCleanPages}
use Rattle.pm_engine.specs.MetPages.{AllowsLine, MeetsBadPage}
use Rattle.pm_engine.specs.Batches.{StaysOpen}
use Rattle.pm_engine.specs.RunningStores.{number_of}
use Rattle.pm_engine.specs.RunningLines.{HasRun, CrashHoldsLines}
use Rattle.pm_engine.specs.RunningStores.{StoreState}
use Rattle.pm_engine.proofs.OwnPages.{kept_equal}
use Rattle.pm_engine.proofs.CheckpointedLines.{between_crash}
use Rattle.pm_engine.proofs.FrameBatching.{evaluates_none, may_well_formed, batch_part}
use Rattle.pm_engine.proofs.HasRunLines.{line_unchanged}
use Rattle.pm_engine.proofs.Replied.{with_none}
use Rattle.pm_engine.proofs.RunningLines.{crash_further, moments_further}

-- ---- lines that a store has done

-- the lines that were done, and none more
pub done_none_more : (wanted : Shape) (told : List ℕ → ℕ) (from : ℕ) (start : Pairs) (done : List Line) (engine : FrameRunning) (w : World)
    → HasDoneLines wanted told from start done engine w → HasDoneLines wanted told from start (done ++ []) engine w
done_none_more wanted told from start done engine w has =
    subst (λ ls. HasDoneLines wanted told from start ls engine w) (sym (append-nil done)) has

-- a crash now
pub still_holds : (wanted : Shape) (told : List ℕ → ℕ) (from : ℕ) (start : Pairs) (done : List Line) (engine : FrameRunning) (w : World)
    → HasDoneLines wanted told from start done engine w → (segments checkpoints : ℕ)
    → CrashHoldsLines (engine.log.end.seg + (segments + 1)) (number_of engine.ckpt.mark + checkpoints) wanted engine.store.shape start done w
still_holds wanted told from start done engine w has segments checkpoints =
    let store = running_in engine w has.logged in
    crash_further (engine.log.end.seg + 1) (number_of engine.ckpt.mark) (engine.log.end.seg + (segments + 1)) (number_of engine.ckpt.mark + checkpoints)
    wanted engine.store.shape start done w (omega arith) (omega arith)
    (between_crash wanted told from start done done store store has.state w w [] has.has tt has.has (0, omega arith, refl))

-- a line that changes nothing was done too
pub done_unchanged : (wanted : Shape) (told : List ℕ → ℕ) (from : ℕ) (start : Pairs) (done : List Line) (line : Line) (engine : FrameRunning) (w : World)
    → after engine.store.shape line (map_in engine w) ≡ map_in engine w → HasDoneLines wanted told from start done engine w
    → HasDoneLines wanted told from start (done ++ line ∷ []) engine w
done_unchanged wanted told from start done line engine w same has = record {
  state = has.state;
  logged = has.logged;
  names = has.names;
  has = line_unchanged wanted told from start done (running_in engine w has.logged) has.state w has.has line same;
}

-- ---- an engine that is as it was

module _ (tells : Type 0) (old new : History) (before now : FrameRunning) (keeps : KeepsEngine tells old new before now) where
  keeps_names : (names : List PageId) → NamesDirty before.store names → NamesDirty now.store names
  keeps_names names named = record {
    once = named.once;
    each = λ part index low small.
        let it = named.each part index (subst (λ (s : Shape). part < s.partitions) keeps.same.shape low) small in
        let dirty = keeps.dirty (page_id part index) in
        (λ has. dirty.1 (it.0 has), λ is. it.1 (dirty.0 is));
  }

  keeps_store : tells → (names : List PageId) → running_in now new.world names ≡ running_in before old.world names
  keeps_store t names = λ i. record {
    shape = keeps.same.shape i;
    pages = keeps.pages t i;
    logged = names;
    log = keeps.log i;
    mark = ap (λ (k : Kept). k.mark) keeps.ckpt i;
  }

  pub keeps_done : tells → (wanted : Shape) (told : List ℕ → ℕ) (from : ℕ) (start : Pairs) (done : List Line)
      → HasDoneLines wanted told from start done before old.world → HasDoneLines wanted told from start done now new.world
  keeps_done t wanted told from start done has = record {
    state = has.state;
    logged = has.logged;
    names = keeps_names has.logged has.names;
    has = subst (λ (p : StoreState × World). HasRun wanted told from start done p.0 has.state p.1)
        {x = (running_in before old.world has.logged, old.world)} {y = (running_in now new.world has.logged, new.world)}
        (λ i. (sym (keeps_store t has.logged) i, sym (keeps.world t).world i)) has.has;
  }

  pub keeps_ends : tells → EndsThere before.log old.world → EndsThere now.log new.world
  keeps_ends t ends = subst (λ (p : LogEnd × World). EndsThere p.0 p.1) {x = (before.log, old.world)} {y = (now.log, new.world)}
      (λ i. (sym keeps.log i, sym (keeps.world t).world i)) ends

  pub keeps_map : tells → map_in now new.world ≡ map_in before old.world
  keeps_map t = λ i. pairs_in (keeps.same.shape i).partitions (keeps.pages t i)

  pub keeps_numbers : (segments checkpoints : ℕ) → TakesNumbersIn before now segments checkpoints
  keeps_numbers segments checkpoints =
      let log = ap (λ (l : LogEnd). l.end.seg) keeps.log in
      let mark = ap (λ (k : Kept). number_of k.mark) keeps.ckpt in
      record { in_log = omega (arith, log); in_marks = omega (arith, mark); risen = λ some. omega (arith, mark) }

  keeps_disk : tells → AllMoments old new (ChangesDisk old.world)
  keeps_disk t = weaker old new (λ w. w ≡ old.world) (ChangesDisk old.world) (λ w is. subst (ChangesDisk old.world) (sym is) (disk_same old.world)) (keeps.world t).moments

  -- these lines change nothing: they were done, as far as what is said of their replies
  module _ (first segments checkpoints : ℕ) (lines : List Line) (was replies : ReplyList) (r : Result (Unit {0}) StoreFault)
      (opens : StaysOpen r → now.store.is_open ≡ true) (shuts : (StaysOpen r → ⊥) → now.store.is_open ≡ false)
      (ends_there : tells → EndsThere before.log old.world)
      (spare : was.spare ≤ length lines + replies.spare)
      (evaluates : tells → MayGoOn before old.world segments checkpoints
      → EvaluatesLines before.store.shape lines (pages_in_frames before.store old.world) (pages_in_frames before.store old.world) was replies)
      (none : tells → accepted before.store.shape first lines (map_in before old.world) ≡ [])
      (more : tells → (wanted : Shape) (told : List ℕ → ℕ) (from : ℕ) (start : Pairs) (done : List Line)
      → HasDoneLines wanted told from start done before old.world → HasDoneLines wanted told from start (done ++ lines) before old.world)
      (sound : tells → MayGoOn before old.world segments checkpoints → (id : PageId) → IsErrOf r (BadPage id) → ⊥)
      (meets : tells → (may_change : ℕ → Bool) → (id : PageId) → IsErrOf r (BadPage id)
      → MeetsBadPage tells may_change before.store.shape (pages_in_frames before.store old.world) id)
      (all : OnOk r (length lines ≡ length lines)) where
    whole : take (length lines) lines ≡ lines
    whole = take-length lines

    none_of : tells → accepted before.store.shape first (take (length lines) lines) (map_in before old.world) ≡ []
    none_of t = ap (λ ls. accepted before.store.shape first ls (map_in before old.world)) whole ∙ none t

    same_order : tells → now.order ≡ before.order ++ accepted before.store.shape first (take (length lines) lines) (map_in before old.world)
    same_order t = keeps.order ∙ sym (append-nil before.order) ∙ ap (λ o. before.order ++ o) (sym (none_of t))

    pub kept_lines : RunsFrameBatch tells old new first lines segments checkpoints before now was replies r
    kept_lines = record {
      tried = length lines;
      within = omega arith;
      all = all;
      same = keeps.same;
      is_open = opens;
      closed = shuts;
      spare = λ stays. spare;
      ends = λ t stays. keeps_ends t (ends_there t);
      clean = λ t stays. keeps.clean t;
      disk = keeps_disk;
      evaluates = λ t stays may. subst (λ (p : List Line × Partitions). EvaluatesLines before.store.shape p.0 (pages_in_frames before.store old.world) p.1 was replies)
          {x = (lines, pages_in_frames before.store old.world)} {y = (take (length lines) lines, pages_in_frames now.store new.world)}
          (λ i. (sym whole i, sym (keeps.pages t) i)) (evaluates t may);
      order = λ t may. same_order t;
      sound = sound;
      meets = λ t may_change allows. record {
        keeps = λ stays. kept_equal may_change (pages_in_frames before.store old.world) (pages_in_frames now.store new.world) (keeps.pages t);
        meets = meets t may_change;
      };
      runs = λ t stays wanted told from start done has some. subst (λ ls. HasDoneLines wanted told from start (done ++ ls) now new.world) (sym whole)
          (keeps_done t wanted told from start (done ++ lines) (more t wanted told from start done has));
      crash = λ t wanted told from start done has some.
          let P : World → Type 0 = CrashHoldsLines (before.log.end.seg + (segments + 1)) (number_of before.ckpt.mark + checkpoints) wanted before.store.shape start (done ++ take (length lines) lines) in
          weaker old new (λ w. w ≡ old.world) P
          (λ w is. subst (λ (p : List Line × World). CrashHoldsLines (before.log.end.seg + (segments + 1)) (number_of before.ckpt.mark + checkpoints) wanted before.store.shape start (done ++ p.0) p.1)
          {x = (lines, old.world)} {y = (take (length lines) lines, w)} (λ i. (sym whole i, sym is i))
          (still_holds wanted told from start (done ++ lines) before old.world (more t wanted told from start done has) segments checkpoints))
          (keeps.world t).moments;
    }

  -- none was done
  pub kept_none : (first segments checkpoints : ℕ) (list : ReplyList) (r : Result (Unit {0}) StoreFault)
      → (StaysOpen r → now.store.is_open ≡ true) → ((StaysOpen r → ⊥) → now.store.is_open ≡ false)
      → (tells → EndsThere before.log old.world)
      → (tells → MayGoOn before old.world segments checkpoints → (id : PageId) → IsErrOf r (BadPage id) → ⊥)
      → (tells → (may_change : ℕ → Bool) → (id : PageId) → IsErrOf r (BadPage id) → MeetsBadPage tells may_change before.store.shape (pages_in_frames before.store old.world) id)
      → OnOk r (◌≡◌ {A = ℕ} 0 0) → RunsFrameBatch tells old new first [] segments checkpoints before now list list r
  kept_none first segments checkpoints list r opens shuts ends_there sound meets all =
      kept_lines first segments checkpoints [] list list r opens shuts ends_there (omega arith)
      (λ t may. evaluates_none before.store.shape (pages_in_frames before.store old.world) list (may_well_formed before old.world segments checkpoints may))
      (λ t. refl)
      (λ t wanted told from start done has. done_none_more wanted told from start done before old.world has)
      sound meets all

  -- a line that changes no map was answered
  pub kept_line : (first segments checkpoints : ℕ) (line : Line) (was replies : ReplyList) → now.store.is_open ≡ true
      → (tells → EndsThere before.log old.world) → was.spare ≤ 1 + replies.spare
      → ((shape : Shape) (pairs : Pairs) → after shape line pairs ≡ pairs)
      → ((shape : Shape) (pairs : Pairs) (number : ℕ) → accepted shape number (line ∷ []) pairs ≡ [])
      → (tells → MayGoOn before old.world segments checkpoints → replies ≡ with_replies (reply_to before.store.shape line (map_in before old.world) ∷ []) was)
      → RunsFrameBatch tells old new first (line ∷ []) segments checkpoints before now was replies (Ok tt)
  kept_line first segments checkpoints line was replies opens ends_there spare same none replied =
      kept_lines first segments checkpoints (line ∷ []) was replies (Ok tt) (λ stays. opens) (λ shut. absurd (shut tt)) ends_there spare
      (λ t may. record {
        replied = replied t may;
        map = sym (same before.store.shape (map_in before old.world));
        well_formed = may_well_formed before old.world segments checkpoints may;
      })
      (λ t. none before.store.shape (map_in before old.world) first)
      (λ t wanted told from start done has. done_unchanged wanted told from start done line before old.world (same before.store.shape (map_in before old.world)) has)
      (λ t may id bad. absurd (cc bad)) (λ t may_change id bad. absurd (cc bad)) refl

-- ---- calls after which the same lines were done

module _ (tells : Type 0) (old new : History) (before now : FrameRunning) (segments checkpoints : ℕ) (same : IsSameEngine before now)
    (order : now.order ≡ before.order) (disk : tells → AllMoments old new (ChangesDisk old.world))
    (crash : tells → (wanted : Shape) (told : List ℕ → ℕ) (from : ℕ) (start : Pairs) (lines : List Line)
    → HasDoneLines wanted told from start lines before old.world → HasNumbersIn before segments checkpoints
    → AllMoments old new (CrashHoldsLines (before.log.end.seg + (segments + 1)) (number_of before.ckpt.mark + checkpoints) wanted before.store.shape start lines)) where
  crash_none : tells → (wanted : Shape) (told : List ℕ → ℕ) (from : ℕ) (start : Pairs) (done : List Line)
      → HasDoneLines wanted told from start done before old.world → HasNumbersIn before segments checkpoints
      → AllMoments old new (CrashHoldsLines (before.log.end.seg + (segments + 1)) (number_of before.ckpt.mark + checkpoints) wanted before.store.shape start (done ++ []))
  crash_none t wanted told from start done has some =
      crash t wanted told from start (done ++ []) (done_none_more wanted told from start done before old.world has) some

  -- a call on the disk failed
  pub failed_none : (first : ℕ) (list : ReplyList) → now.store.is_open ≡ false
      → RunsFrameBatch tells old new first [] segments checkpoints before now list list (Err Failed)
  failed_none first list shut = record {
    tried = 0;
    within = omega arith;
    all = tt;
    same = same;
    is_open = λ stays. absurd stays;
    closed = λ fault. shut;
    spare = λ stays. absurd stays;
    ends = λ t stays. absurd stays;
    clean = λ t stays. absurd stays;
    disk = disk;
    evaluates = λ t stays may. absurd stays;
    order = λ t may. order ∙ sym (append-nil before.order);
    sound = λ t may id bad. absurd (cc bad);
    meets = λ t may_change allows. record { keeps = λ on. absurd on; meets = λ id bad. absurd (cc bad) };
    runs = λ t stays wanted told from start done has some. absurd stays;
    crash = crash_none;
  }

  module _ (keeps : tells → (wanted : Shape) (told : List ℕ → ℕ) (from : ℕ) (start : Pairs) (lines : List Line)
      → HasDoneLines wanted told from start lines before old.world → HasNumbersIn before segments checkpoints
      → HasDoneLines wanted told from start lines now new.world)
      (there_still : tells → (part index : ℕ) (bytes : List ℕ) → pages_in_frames before.store old.world part index ≡ Some bytes
      → pages_in_frames now.store new.world part index ≡ Some bytes) where
    -- the map is the same, as that after the same lines
    same_map : tells → (may : MayGoOn before old.world segments checkpoints)
        → pairs_in before.store.shape.partitions (pages_in_frames now.store new.world) ≡ map_in before old.world
    same_map t may =
        let later = keeps t may.wanted may.told may.from may.start may.lines may.has may.numbers in
        ap (λ (s : Shape). pairs_in s.partitions (pages_in_frames now.store new.world)) (sym same.shape)
        ∙ later.has.map
        ∙ ap (λ (s : Shape). after_all s may.lines may.start) same.shape
        ∙ sym may.has.has.map

    pub done_none : (first : ℕ) (list : ReplyList) → now.store.is_open ≡ true → (tells → EndsThere now.log new.world)
        → (tells → HasCleanPages now.store new.world)
        → RunsFrameBatch tells old new first [] segments checkpoints before now list list (Ok tt)
    done_none first list opens ends_now clean = record {
      tried = 0;
      within = omega arith;
      all = refl;
      same = same;
      is_open = λ stays. opens;
      closed = λ shut. absurd (shut tt);
      spare = λ stays. omega arith;
      ends = λ t stays. ends_now t;
      clean = λ t stays. clean t;
      disk = disk;
      evaluates = λ t stays may. record {
        replied = with_none list;
        map = same_map t may;
        well_formed = subst (λ (s : Shape). AllWellFormed s (pages_in_frames now.store new.world)) same.shape
            (keeps t may.wanted may.told may.from may.start may.lines may.has may.numbers).has.runs.holds.well_formed;
      };
      order = λ t may. order ∙ sym (append-nil before.order);
      sound = λ t may id bad. absurd (cc bad);
      meets = λ t may_change allows. record { keeps = λ stays part index bytes there. inl (there_still t part index bytes there); meets = λ id bad. absurd (cc bad) };
      runs = λ t stays wanted told from start done has some.
          keeps t wanted told from start (done ++ []) (done_none_more wanted told from start done before old.world has) some;
      crash = crash_none;
    }

-- ---- the lines of a round

from_first : (n : ℕ) (lines : List Line) → lines_from 0 n lines ≡ take n lines
from_first n [] = refl
from_first n (line ∷ lines) = refl

module _ (tells : Type 0) (old new : History) (first : ℕ) (lines : List Line) (before now : FrameRunning) (was replies : ReplyList) where
  module _ (end : RoundEnd) (does : DoesRoundLines tells old new first 0 lines before now was replies end) where
    -- what a round did, as lines of a batch
    round_batch : (ys : List Line) (r : Result (Unit {0}) StoreFault) → take end.done ys ≡ take end.done lines → end.done ≤ length ys
        → OnOk r (end.done ≡ length ys) → (StaysOpen r → may_go_on end.stop ≡ true) → ((StaysOpen r → ⊥) → may_go_on end.stop ≡ false)
        → ((id : PageId) → IsErrOf r (BadPage id) → end.stop ≡ Some (Faulted (page.BadPage id)))
        → ((id : PageId) → IsErrOf r (BadPage id) → ys ≡ lines)
        → RunsFrameBatch tells old new first ys (33 * length lines) 0 before now was replies r
    round_batch ys r same_lines inside all goes_on ends_at bad_is whole =
        let its = before.store.shape in
        let pairs = map_in before old.world in
        let ys_are : lines_from 0 end.done lines ≡ take end.done ys = from_first end.done lines ∙ sym same_lines in
        let opens : StaysOpen r → now.store.is_open ≡ true = λ stays. does.is_open ∙ goes_on stays in
        let well : MayGoOn before old.world (33 * length lines) 0 → AllWellFormed its (pages_in_frames before.store old.world) =
        may_well_formed before old.world (33 * length lines) 0 in
        let first_is : first + 0 ≡ first = omega arith in
        let order_is : tells → AllWellFormed its (pages_in_frames before.store old.world) → now.order ≡ before.order ++ accepted its first (take end.done ys) pairs =
        λ t all_well. does.order t all_well ∙ ap (λ n. before.order ++ accepted its n (lines_from 0 end.done lines) pairs) first_is
        ∙ ap (λ ls. before.order ++ accepted its first ls pairs) ys_are in
        record {
          tried = end.done;
          within = inside;
          all = all;
          same = does.same;
          is_open = opens;
          closed = λ shut. does.is_open ∙ ends_at shut;
          spare = λ stays. does.spare;
          ends = λ t stays. does.ends t;
          clean = λ t stays. does.clean t (opens stays);
          disk = does.disk;
          evaluates = λ t stays may. subst (λ ls. EvaluatesLines its ls (pages_in_frames before.store old.world) (pages_in_frames now.store new.world) was replies) ys_are
              (does.evaluates t (opens stays) (well may));
          order = λ t may. order_is t (well may);
          sound = λ t may id bad. does.sound t (well may) id (bad_is id bad);
          meets = λ t may_change allows. record {
            keeps = λ stays. does.keeps t (opens stays) may_change (subst (All (AllowsLine may_change its)) (sym ys_are) (All-take (AllowsLine may_change its) end.done ys allows));
            meets = λ id bad. does.meets t may_change (subst (All (AllowsLine may_change its)) (whole id bad) allows) id (bad_is id bad);
          };
          runs = λ t stays wanted told from start done has some. subst (λ ls. HasDoneLines wanted told from start (done ++ ls) now new.world) ys_are
              (does.runs t (opens stays) wanted told from start done has some.in_log);
          crash = λ t wanted told from start done has some.
              subst (λ ls. AllMoments old new (CrashHoldsLines (before.log.end.seg + (33 * length lines + 1)) (number_of before.ckpt.mark + 0) wanted its start (done ++ ls))) ys_are
              (moments_further (before.log.end.seg + (33 * length lines + 1)) (number_of before.ckpt.mark) (before.log.end.seg + (33 * length lines + 1)) (number_of before.ckpt.mark + 0)
              wanted its start (done ++ lines_from 0 end.done lines) old new (omega arith) (omega arith) (does.crash t wanted told from start done has some.in_log));
        }

    pub round_inside : end.done ≤ length lines
    round_inside = omega (arith, does.inside)

    pub round_done : may_go_on end.stop ≡ true → RunsFrameBatch tells old new first (take end.done lines) (33 * length lines) 0 before now was replies (Ok tt)
    round_done goes_on =
        let long : length (take end.done lines) ≡ end.done = length-take-le end.done lines round_inside in
        round_batch (take end.done lines) (Ok tt) (take-take end.done end.done lines (omega arith)) (omega (arith, long)) (sym long) (λ stays. goes_on) (λ shut. absurd (shut tt)) (λ id bad. absurd (cc bad)) (λ id bad. absurd (cc bad))

    -- none was done, and frames lack
    pub round_lacks : may_go_on end.stop ≡ true → RunsFrameBatch tells old new first lines (33 * length lines) 0 before now was replies (Err (Memory Frames))
    round_lacks goes_on =
        round_batch lines (Err (Memory Frames)) refl round_inside tt (λ stays. goes_on) (λ shut. absurd (shut tt)) (λ id bad. absurd (cc bad)) (λ id bad. refl)

    pub round_faulted : (fault : PageFault) → end.stop ≡ Some (Faulted fault)
        → RunsFrameBatch tells old new first lines (33 * length lines) 0 before now was replies (Err (store_fault_of fault))
    round_faulted page.Failed is =
        round_batch lines (Err Failed) refl round_inside tt (λ stays. absurd stays) (λ shut. ap may_go_on is) (λ id bad. absurd (cc bad)) (λ id bad. refl)
    round_faulted (page.BadPage id) is =
        round_batch lines (Err (BadPage id)) refl round_inside tt (λ stays. absurd stays) (λ shut. ap may_go_on is)
        (λ other bad. is ∙ ap (λ (p : PageId). let s : Stop = Faulted (page.BadPage p) in Some s) (same_page id other bad)) (λ other bad. refl)
      where
        same_page : (p q : PageId) → IsErrOf {T = Unit {0}} {E = StoreFault} (Err (BadPage p)) (BadPage q) → p ≡ q
        same_page p q is = cc is

    pub round_numbers : TakesNumbersIn before now (33 * end.done) 0
    round_numbers =
        let mark = ap (λ (k : Kept). number_of k.mark) does.ckpt in
        record { in_log = does.rises; in_marks = omega (arith, mark); risen = λ some. omega (arith, mark) }

  -- what they handed over wasn't appended
  pub round_lost : LosesRoundLines tells old new first 0 lines before now
      → RunsFrameBatch tells old new first lines (33 * length lines) 0 before now was replies (Err Failed)
  round_lost loses =
      let its = before.store.shape in
      let pairs = map_in before old.world in
      let ys_are : lines_from 0 loses.tried lines ≡ take loses.tried lines = from_first loses.tried lines in
      let first_is : first + 0 ≡ first = omega arith in
      record {
        tried = loses.tried;
        within = omega (arith, loses.inside);
        all = tt;
        same = loses.same;
        is_open = λ stays. absurd stays;
        closed = λ shut. loses.is_open;
        spare = λ stays. absurd stays;
        ends = λ t stays. absurd stays;
        clean = λ t stays. absurd stays;
        disk = loses.disk;
        evaluates = λ t stays may. absurd stays;
        order = λ t may.
            loses.order t (may_well_formed before old.world (33 * length lines) 0 may)
            ∙ ap (λ n. before.order ++ accepted its n (lines_from 0 loses.tried lines) pairs) first_is
            ∙ ap (λ ls. before.order ++ accepted its first ls pairs) ys_are;
        sound = λ t may id bad. absurd (cc bad);
        meets = λ t may_change allows. record { keeps = λ on. absurd on; meets = λ id bad. absurd (cc bad) };
        runs = λ t stays wanted told from start done has some. absurd stays;
        crash = λ t wanted told from start done has some.
            subst (λ ls. AllMoments old new (CrashHoldsLines (before.log.end.seg + (33 * length lines + 1)) (number_of before.ckpt.mark + 0) wanted its start (done ++ ls))) ys_are
            (moments_further (before.log.end.seg + (33 * length lines + 1)) (number_of before.ckpt.mark) (before.log.end.seg + (33 * length lines + 1)) (number_of before.ckpt.mark + 0)
            wanted its start (done ++ lines_from 0 loses.tried lines) old new (omega arith) (omega arith) (loses.crash t wanted told from start done has some.in_log));
      }

-- an engine that is the same
pub keeps_itself : (tells : Type 0) (old new : History) (before now : FrameRunning) → now ≡ before → (tells → ChangesNoWorld old new)
    → (tells → HasCleanPages before.store old.world) → KeepsEngine tells old new before now
keeps_itself tells old new before now is world clean =
    subst (λ (e : FrameRunning). KeepsEngine tells old new before e) (sym is) (record {
      same = record { shape = refl; region = refl; locks = refl };
      log = refl;
      ckpt = refl;
      began = refl;
      order = refl;
      dirty = λ id. (λ d. d, λ d. d);
      pages = λ t. ap (λ (w : World). pages_in_frames before.store w) (world t).world;
      clean = λ t. subst (λ (w : World). HasCleanPages before.store w) (sym (world t).world) (clean t);
      world = world;
    })

-- something ran out: none of these lines was done
pub none_done : (lack : Lack) (tells : Type 0) (old new : History) (before now : FrameRunning) → KeepsEngine tells old new before now
    → (first segments checkpoints : ℕ) (lines : List Line) (list : ReplyList) → now.store.is_open ≡ true → (tells → EndsThere before.log old.world)
    → RunsFrameBatch tells old new first lines segments checkpoints before now list list (Err (Memory lack))
none_done lack tells old new before now keeps first segments checkpoints lines list opens ends_there =
    batch_part tells old new first [] lines segments checkpoints segments checkpoints before now list list (Memory lack)
    (kept_none tells old new before now keeps first segments checkpoints list (Err (Memory lack)) (λ stays. opens) (λ shut. absurd (shut tt)) ends_there (λ t may id bad. absurd (cc bad)) (λ t may_change id bad. absurd (cc bad)) tt)
    (omega arith) (omega arith)
