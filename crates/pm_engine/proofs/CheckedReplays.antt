-- An engine over page frames that applies its log again goes on after a checkpoint, and a crash meanwhile leaves what the store held.
use Rattle.std.proofs.Common.{◌≡◌, inl, ℕ, ◌+◌, ◌<◌, ◌≤◌, ◌^◌, List, [], ◌∷◌, length, Some, Result, Ok, sym, ap, ◌∙◌, subst, arith, Bool, false, true}
use Rattle.std.specs.Prelude.{IsErr}
use Rattle.pm_types.specs.declared.page_id.PageId.{PageId}
use Rattle.pm_types.specs.declared.place.Place.{Place}
use Rattle.pm_types.specs.declared.shape.Mark.{Mark}
use Rattle.pm_types.specs.declared.shape.Shape.{Shape}
use Rattle.pm_frame.specs.Frames.{Frame}
use Rattle.pm_disk.specs.Moments.{History, AllMoments}
use Rattle.pm_disk.proofs.Chain.{weaker}
use Rattle.pm_model.specs.Eval.{Pairs}
use Rattle.pm_locks.specs.Sight.{LockTable}
use Rattle.pm_marks.specs.Slots.{IsMark, IsMarkPlace}
use Rattle.pm_segments.specs.Ends.{LogEnd, EndsThere}
use Rattle.pm_core.specs.BasePages.{Partitions}
use Rattle.pm_core.specs.Calls.{ChangesDisk, MakesPrefix}
use Rattle.pm_core.specs.Replays.{all_replayed}
use Rattle.pm_core.specs.States.{State}
use Rattle.pm_ckpt.specs.Checkpoints.{CanCheckpoint, KeepsLogFrom, LeavesLog, MakesWhole, whole_steps}
use Rattle.pm_ckpt.specs.Dirty.{IsNext}
use Rattle.pm_ckpt.specs.Marked.{mark_for, kept_segment, begin_frame}
use Rattle.pm_ckpt.specs.Marked as marked
use Rattle.pm_engine.specs.FrameCheckpoints.{IsCheckpointed, ClosesStore}
use Rattle.pm_engine.specs.FrameDirty.{ListsDirty}
use Rattle.pm_engine.specs.EngineReplays.{IsReplayingIn}
use Rattle.pm_engine.specs.Engines.{FrameRunning, IsEngine, map_in}
use Rattle.pm_engine.specs.FrameReplayCheckpoints.{ReplaysFromIn, KeepsWholePages, ChecksInFrames}
use Rattle.pm_engine.specs.FrameStores.{HasCleanPages, IsDirtyPage, pages_in_frames}
use Rattle.pm_engine.specs.MetPages.{KeepsPagesBut}
use Rattle.pm_engine.specs.RunningStores.{number_of}
use Rattle.pm_engine.specs.Replays.{AreLasting, CrashHoldsMap}
use Rattle.pm_engine.specs.RunningStores.{HasSegmentsFor, IsMarkIn}
use Rattle.pm_engine.proofs.RisenNumbers.{mark_rises}
use Rattle.pm_engine.proofs.GrownLogs.{all_from, all_size}
use Rattle.pm_engine.proofs.ReplayedCheckpoints.{may_make, leads, holds}
use Rattle.pm_engine.proofs.Results.{on_err, err_anyway}
use Rattle.pm_engine.proofs.RisenLogs.{grown_rises, grown_goes_on}
use Rattle.pm_engine.proofs.WholePages.{whole_checked, map_checked}

module _ (before : FrameRunning) (is : IsEngine before) (from : Place) (fits : IsMarkPlace from) (names : List PageId) (bytes : Partitions) (dirty : ListsDirty before.store names bytes) (old new : History) where
  abbrev mark : Mark
  mark = mark_for before.ckpt before.log (Some from)

  -- from each state in which it may be made its steps were
  abbrev pub MakesSteps : {T E : Type 0} → Result T E → Type 0
  MakesSteps {T} {E} result =
      (wanted : Shape) (told : List ℕ → ℕ) (s : State) → (can : CanCheckpoint wanted told s before.log mark bytes names old.world) → MakesWhole {T = T} {E = E} told old new result before.log mark can.rebuilt bytes names s

  module _ (wanted : Shape) (told : List ℕ → ℕ) (pairs : Pairs) (s : State) (left : List Frame) (replaying : IsReplayingIn wanted told pairs before s old.world) (lasts : AreLasting from left before.store.shape pairs s old.world)
      (makes : all_replayed before.store.shape left (Some (map_in before old.world)) ≡ Some pairs) (segments : HasSegmentsFor before.log 1) (numbered : number_of before.ckpt.mark + 1 < 2 ^ 64) where
    can : CanCheckpoint wanted told s before.log mark bytes names old.world
    can = may_make before names bytes dirty is.shape numbered segments wanted told pairs from left s old.world replaying lasts makes fits

    pub check_crash : {T E : Type 0} (result : Result T E) → MakesSteps {T = T} {E = E} result → AllMoments old new (CrashHoldsMap (before.log.end.seg + 2) (number_of before.ckpt.mark + 1) wanted before.store.shape pairs)
    check_crash {T} {E} result steps =
        let made : MakesWhole {T = T} {E = E} told old new result before.log mark can.rebuilt bytes names s = steps wanted told s can in
        weaker old new (MakesPrefix (whole_steps before.log mark can.rebuilt bytes made.writings s old.world) s old.world) (CrashHoldsMap (before.log.end.seg + 2) (number_of before.ckpt.mark + 1) wanted before.store.shape pairs)
        (λ w some. holds before names bytes dirty is.shape numbered segments wanted told pairs from left s old.world replaying lasts makes fits can made.writings made.order made.guards made.leaves w some)
        made.makes.moments

    pub check_replays : (tells : Type 0) → tells → {T E : Type 0} (u : T) → MakesSteps {T = T} {E = E} (Ok u) → (after : FrameRunning) → IsNext mark before.ckpt after.ckpt before.log after.log → IsCheckpointed tells old.world new.world before.store after.store
        → HasCleanPages before.store old.world → ReplaysFromIn wanted told pairs from left before after old.world new.world
    check_replays tells t {T} {E} u steps after next done clean =
        let made : MakesWhole {T = T} {E = E} told old new (Ok u) before.log mark can.rebuilt bytes names s = steps wanted told s can in
        leads before names bytes dirty is.shape numbered segments wanted told pairs from left s old.world replaying lasts makes fits can made.writings made.order made.guards made.leaves
        after new.world made.makes.all next done.shape done.none_dirty (done.as_files t clean)

  -- the engine after it
  pub engine_checked : (tells : Type 0) (after : FrameRunning) → before.store.is_open ≡ true → IsMark mark → IsNext mark before.ckpt after.ckpt before.log after.log → IsCheckpointed tells old.world new.world before.store after.store → IsEngine after
  engine_checked tells after opened is_mark next done = record {
    shape = ap (λ (k : marked.Kept). k.shape) next.kept ∙ is.shape ∙ sym done.shape;
    mark = subst IsMarkIn (sym (ap (λ (k : marked.Kept). k.mark) next.kept)) is_mark;
    from_one = λ on. subst (λ (l : LogEnd). 1 ≤ l.end.seg) (sym next.ends) (all_from before.log (begin_frame mark ∷ []) (is.from_one opened));
    size_to = λ on. omega (arith, ap (λ (l : LogEnd). l.segment_bytes) next.ends, all_size before.log (begin_frame mark ∷ []), is.size_to opened);
    room = λ on. ap (λ (k : marked.Kept). k.room) next.kept ∙ is.room opened ∙ ap (λ (l : LockTable). Some (length l.ranges)) (sym done.locks);
    sent = λ on. done.outbox ∙ is.sent opened;
  }

  -- ---- the call

  module _ (tells : Type 0) (disk : tells → AllMoments old new (ChangesDisk old.world)) where
    -- it was made
    pub checks_made : {T E S F : Type 0} (u : T) (v : S) → (tells → MakesSteps {T = T} {E = E} (Ok u)) → (after : FrameRunning) → IsNext mark before.ckpt after.ckpt before.log after.log → IsCheckpointed tells old.world new.world before.store after.store
        → (tells → HasCleanPages before.store old.world) → after.order ≡ before.order → before.store.is_open ≡ true → (tells → LeavesLog (kept_segment mark) before.log after.log old.world new.world)
        → ChecksInFrames {T = S} {E = F} tells from before after old new (Ok v)
    checks_made {T} {E} u v steps after next done clean order opened leaves = record {
      ready = record {
        same = record { shape = done.shape; region = done.region; locks = done.locks };
        order = order;
        is_open = done.is_open ∙ opened;
        clean = λ t. done.clean t (clean t);
        ends = λ t. (leaves t).ends;
        disk = disk;
      };
      closed = tt;
      rises = omega (arith, ap (λ (l : LogEnd). l.end.seg) next.ends, grown_rises before.log (begin_frame mark));
      goes_on = λ segments. omega (arith, ap (λ (l : LogEnd). l.end.seg) next.ends, grown_goes_on before.log (begin_frame mark) (omega (arith, segments)));
      number = omega (arith, ap (λ (k : marked.Kept). number_of k.mark) next.kept, mark_rises before.ckpt.mark);
      none_dirty = done.none_dirty;
      log = λ t segments seg low high. (leaves t).begins (omega (arith, segments)) seg (omega (arith, low)) high;
      pages = λ t may_change part index bytes was. inl (done.pages t part index bytes was);
      whole = λ t whole. record {
        pages = whole_checked before.store after.store old.world new.world tells t done (clean t) whole;
        map = map_checked before.store after.store old.world new.world tells t done (clean t) whole;
      };
      runs = λ t wanted told pairs s left replaying lasts makes segments numbered. check_replays wanted told pairs s left replaying lasts makes segments numbered tells t {T = T} {E = E} u (steps t) after next done (clean t);
      crash = λ t wanted told pairs s left replaying lasts makes segments numbered. check_crash wanted told pairs s left replaying lasts makes segments numbered {T = T} {E = E} (Ok u) (steps t);
    }

    -- a call on the disk failed
    pub checks_closed : {T E S F : Type 0} (result : Result T E) (answer : Result S F) → IsErr answer → (tells → MakesSteps {T = T} {E = E} result) → (after : FrameRunning) → ClosesStore before.store after.store → after.order ≡ before.order
        → ChecksInFrames {T = S} {E = F} tells from before after old new answer
    checks_closed {T} {E} {S} {F} result answer err steps after closes order = record {
      ready = record {
        same = record { shape = closes.shape; region = closes.region; locks = closes.locks };
        order = order;
        is_open = on_err answer err (after.store.is_open ≡ true);
        clean = λ t. on_err answer err (HasCleanPages after.store new.world);
        ends = λ t. on_err answer err (EndsThere after.log new.world);
        disk = disk;
      };
      closed = err_anyway answer (after.store.is_open ≡ false) closes.is_open;
      rises = on_err answer err (after.log.end.seg ≤ before.log.end.seg + 1);
      goes_on = λ segments. on_err answer err (before.log.end.seg ≤ after.log.end.seg);
      number = on_err answer err (number_of after.ckpt.mark ≤ number_of before.ckpt.mark + 1);
      none_dirty = on_err answer err ((id : PageId) → IsDirtyPage after.store id → ⊥);
      log = λ t segments. on_err answer err (KeepsLogFrom from.seg before.log.end.seg old.world new.world);
      pages = λ t. on_err answer err ((may_change : ℕ → Bool) → KeepsPagesBut may_change (pages_in_frames before.store old.world) (pages_in_frames after.store new.world));
      whole = λ t whole. on_err answer err (KeepsWholePages before after old.world new.world);
      runs = λ t wanted told pairs s left replaying lasts makes segments numbered. on_err answer err (ReplaysFromIn wanted told pairs from left before after old.world new.world);
      crash = λ t wanted told pairs s left replaying lasts makes segments numbered. check_crash wanted told pairs s left replaying lasts makes segments numbered {T = T} {E = E} result (steps t);
    }
