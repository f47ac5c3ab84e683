-- A record is applied again, after a checkpoint where what its operation may need is lacking.
use Rattle.std.proofs.Common.{◌≡◌, ℕ, ◌+◌, ◌≤◌, ◌<◌, ◌^◌, Bool, true, false, List, Option, Some, Result, Ok, Err, sym, ap, ◌∙◌, refl, subst, arith}
use Rattle.std.specs.Prelude.{IfOk, OnOk, IsErr, IsErrOf}
use Rattle.std.proofs.lemmas.Bool.{false≢true}
use Rattle.std.proofs.lemmas.Result.{on_ok_weaker}
use Rattle.pm_types.specs.declared.fault.StoreFault.{StoreFault}
use Rattle.pm_types.specs.declared.fault.StoreFault.TheVariants.{BadPage}
use Rattle.pm_types.specs.declared.page_id.PageId.{PageId}
use Rattle.pm_types.specs.declared.place.Place.{Place}
use Rattle.pm_types.specs.declared.shape.Shape.{Shape}
use Rattle.pm_frame.specs.Frames.{Frame}
use Rattle.pm_disk.specs.Moments.{History, AllMoments, IsHistory}
use Rattle.pm_disk.specs.Worlds.{World}
use Rattle.pm_disk.proofs.Chain.{joined}
use Rattle.pm_model.specs.Eval.{Pairs}
use Rattle.pm_records.specs.LogFiles.{contents}
use Rattle.pm_records.specs.Records.{Record}
use Rattle.pm_segments.specs.Ends.{LogEnd}
use Rattle.pm_segments.proofs.GrownLog.{extends_then}
use Rattle.pm_core.specs.BasePages.{Partitions}
use Rattle.pm_core.specs.Held.{AllWellFormed}
use Rattle.pm_core.specs.Replays.{all_replayed}
use Rattle.pm_core.specs.States.{State}
use Rattle.pm_ckpt.specs.Checkpoints.{KeepsLogFrom}
use Rattle.pm_ckpt.specs.Marked as marked
use Rattle.pm_engine.specs.declared.engine_replay.Applied.{Applied}
use Rattle.pm_engine.specs.declared.engine_replay.Applied.TheVariants as applied
use Rattle.pm_engine.specs.EngineReplays.{HasWholePages, IsReplayingIn, GoesOnInFrames, AppliesAs, AppliesRecord, NamesNoPage}
use Rattle.pm_engine.specs.Engines.{FrameRunning, map_in}
use Rattle.pm_engine.specs.FrameReplayCheckpoints.{ChecksInFrames, AppliesToWhole, ReplaysRecordFrom, ReplaysRecord, applied_once}
use Rattle.pm_engine.specs.FrameStores.{pages_in_frames}
use Rattle.pm_engine.specs.MetPages.{AllowsRecord, KeepsPagesBut, KeepsOrMeets}
use Rattle.pm_engine.specs.RunningStores.{number_of}
use Rattle.pm_engine.specs.Replays.{AreLasting, CrashHoldsMap, Replays, CanBeRefused}
use Rattle.pm_engine.specs.RunningStores.{HasSegmentsFor}
use Rattle.pm_engine.proofs.MetPages.{meets_then}
use Rattle.pm_engine.proofs.OwnPages.{kept_equal}
use Rattle.pm_engine.proofs.ReadyEngines.{ready_applied, ready_err, ready_then}
use Rattle.pm_engine.proofs.Results.{on_err}
use Rattle.pm_engine.proofs.RunningLines.{map_moments}

-- ---- what is answered

-- where a record was applied once, it is as was said of it
once_open : (answer : Result Applied StoreFault) (P : Type 0) → OnOk answer P → OnOk (applied_once answer) P
once_open (Ok applied.Done) P p = p
once_open (Ok applied.Bad) P p = p
once_open (Ok (applied.Halted halt)) P p = tt
once_open (Err fault) P p = tt

once_applies : (answer : Result Applied StoreFault) (shape : Shape) (found : Option Record) (before now : Pairs) → IfOk answer (λ a. AppliesAs a shape found before now) → IfOk (applied_once answer) (λ can. Replays can shape found before now)
once_applies (Ok applied.Done) shape found before now p = p
once_applies (Ok applied.Bad) shape found before now p = p
once_applies (Ok (applied.Halted halt)) shape found before now p = tt
once_applies (Err fault) shape found before now p = tt

-- nor does it name another page than it did
once_no_page : (answer : Result Applied StoreFault) → NamesNoPage answer → NamesNoPage (applied_once answer)
once_no_page (Ok applied.Done) none id is = absurd cc
once_no_page (Ok applied.Bad) none id is = absurd cc
once_no_page (Ok (applied.Halted halt)) none id is = absurd cc
once_no_page (Err fault) none id is = none id (same_fault fault (BadPage id) is)
  where
    same_fault : (one other : StoreFault) → IsErrOf {T = Bool} (Err one) other → IsErrOf {T = Applied} (Err one) other
    same_fault one other is = let same : one ≡ other = cc is in ap (λ (f : StoreFault). Err f) same

-- a page that is named then was named before
once_page : (answer : Result Applied StoreFault) (id : PageId) → IsErrOf (applied_once answer) (BadPage id) → IsErrOf answer (BadPage id)
once_page (Ok applied.Done) id is = absurd cc
once_page (Ok applied.Bad) id is = absurd cc
once_page (Ok (applied.Halted halt)) id is = absurd cc
once_page (Err fault) id is = let same : fault ≡ BadPage id = cc is in ap (λ (f : StoreFault). Err f) same

-- a record that can't be applied was refused
once_refused : (answer : Result Applied StoreFault) → applied_once answer ≡ Ok false → answer ≡ Ok applied.Bad
once_refused (Ok applied.Done) is = absurd cc
once_refused (Ok applied.Bad) is = refl
once_refused (Ok (applied.Halted halt)) is = absurd cc
once_refused (Err fault) is = absurd cc

-- what is said of any store of one answer is said of another that names no other pages
meets_once : (tells : Type 0) (may_change : ℕ → Bool) (shape : Shape) (old new : Partitions) (goes_on : Type 0) (answer : Result Applied StoreFault) → KeepsOrMeets tells may_change shape old new goes_on (λ id. IsErrOf answer (BadPage id))
    → KeepsOrMeets tells may_change shape old new goes_on (λ id. IsErrOf (applied_once answer) (BadPage id))
meets_once tells may_change shape old new goes_on answer x = record { keeps = x.keeps; meets = λ id bad. x.meets id (once_page answer id bad) }

-- ---- nothing was changed, and the host said nothing

pub quiet_keeps : (tells : Type 0) (engine : FrameRunning) (old new : World) → (tells → new ≡ old) → tells → (may_change : ℕ → Bool) → KeepsPagesBut may_change (pages_in_frames engine.store old) (pages_in_frames engine.store new)
quiet_keeps tells engine old new same t may_change = kept_equal may_change (pages_in_frames engine.store old) (pages_in_frames engine.store new) (ap (λ (w : World). pages_in_frames engine.store w) (same t))

pub quiet_meets : (tells : Type 0) (found : Option Record) (engine : FrameRunning) (old new : World) (result : Result Bool StoreFault) → (tells → new ≡ old) → NamesNoPage result → tells → (may_change : ℕ → Bool) → AllowsRecord may_change engine.store.shape found
    → KeepsOrMeets tells may_change engine.store.shape (pages_in_frames engine.store old) (pages_in_frames engine.store new) (engine.store.is_open ≡ true) (λ id. IsErrOf result (BadPage id))
quiet_meets tells found engine old new result same none t may_change allows = record { keeps = λ on. quiet_keeps tells engine old new same t may_change; meets = λ id bad. absurd (none id bad) }

-- ---- where it may be applied

-- where it may be applied to the pages, they may be applied to afterwards
whole_after : (found : Option Record) (before now : FrameRunning) (old new : World) (result : Result Bool StoreFault) → OnOk result (now.store.is_open ≡ true) → (now.store.is_open ≡ true → HasWholePages now.store new)
    → IfOk result (λ can. Replays can before.store.shape found (map_in before old) (map_in now new)) → IfOk result (AppliesToWhole found before now old new)
whole_after found before now old new (Ok can) on pages applies = record { applies = applies; pages = pages on }
whole_after found before now old new (Err fault) on pages applies = tt

-- ---- without a checkpoint

module _ (tells : Type 0) (from : Place) (found : Option Record) (before now : FrameRunning) (old new : History) (goes : GoesOnInFrames tells before now old new) where
  pub record_alone : (result : Result Bool StoreFault) → OnOk result (now.store.is_open ≡ true)
      → (tells → AllWellFormed before.store.shape (pages_in_frames before.store old.world) → IfOk result (λ can. Replays can before.store.shape found (map_in before old.world) (map_in now new.world)))
      → (tells → AllWellFormed before.store.shape (pages_in_frames before.store old.world) → NamesNoPage result)
      → (tells → (may_change : ℕ → Bool) → AllowsRecord may_change before.store.shape found
      → KeepsOrMeets tells may_change before.store.shape (pages_in_frames before.store old.world) (pages_in_frames now.store new.world) (now.store.is_open ≡ true) (λ id. IsErrOf result (BadPage id)))
      → (result ≡ Ok false → CanBeRefused found) → ReplaysRecord tells from found before now old new result
  record_alone result opens applies none meets refuses = record {
    ready = ready_applied tells before now old new result goes opens;
    rises = on_ok_weaker result (λ (on : now.store.is_open ≡ true). omega (arith, goes.rises on)) opens;
    number = on_ok_weaker result (λ (on : now.store.is_open ≡ true). omega (arith, ap (λ (k : marked.Kept). number_of k.mark) goes.ckpt)) opens;
    goes_on = λ t segments. on_ok_weaker result (λ (on : now.store.is_open ≡ true). (goes.grew t (omega (arith, segments)) on).rises) opens;
    log = λ t segments. on_ok_weaker result (λ (on : now.store.is_open ≡ true). λ seg low high. (goes.grew t (omega (arith, segments)) on).begins seg high) opens;
    whole = λ t whole. whole_after found before now old.world new.world result opens (λ on. goes.whole t on whole) (applies t whole.well_formed);
    no_page = λ t whole. none t whole.well_formed;
    meets = meets;
    refuses = refuses;
    runs = λ t wanted told pairs s left is lasts makes segments numbered. by t wanted told pairs s left is lasts segments result opens (applies t is.runs.holds.well_formed);
    crash = λ t wanted told pairs s left is lasts makes segments numbered.
        map_moments (before.log.end.seg + 33) (number_of before.ckpt.mark) (before.log.end.seg + 34) (number_of before.ckpt.mark + 1) wanted before.store.shape pairs old new (omega arith) (omega arith)
        (goes.crash t wanted told pairs s is (omega (arith, segments)));
  }
    where
      by : (t : tells) (wanted : Shape) (told : List ℕ → ℕ) (pairs : Pairs) (s : State) (left : List Frame) (is : IsReplayingIn wanted told pairs before s old.world) (lasts : AreLasting from left before.store.shape pairs s old.world) (segments : HasSegmentsFor before.log 33)
          (r : Result Bool StoreFault) → OnOk r (now.store.is_open ≡ true) → IfOk r (λ can. Replays can before.store.shape found (map_in before old.world) (map_in now new.world)) → IfOk r (ReplaysRecordFrom wanted told pairs from left found before now old.world new.world)
      by t wanted told pairs s left is lasts segments (Ok can) on app =
          let goes_then = goes.runs t on wanted told pairs s is (omega (arith, segments)) in
          record { state = goes_then.state; is = goes_then.is; lasts = goes_then.lasts from left (subst (λ (k : Shape). AreLasting from left k pairs s old.world) (sym goes.same.shape) lasts); applies = app }
      by t wanted told pairs s left is lasts segments (Err fault) on app = tt

-- the same, of a record that isn't tried once more
pub record_once : (tells : Type 0) (from : Place) (found : Option Record) (before now : FrameRunning) (old new : History) (answer : Result Applied StoreFault) → AppliesRecord tells found before now old new answer → ReplaysRecord tells from found before now old new (applied_once answer)
record_once tells from found before now old new answer x =
    record_alone tells from found before now old new x.goes_on (applied_once answer) (once_open answer (now.store.is_open ≡ true) x.is_open)
    (λ t well. once_applies answer before.store.shape found (map_in before old.world) (map_in now new.world) (x.over_well_formed t well).applies)
    (λ t well. once_no_page answer (x.over_well_formed t well).no_page)
    (λ t may_change allows. meets_once tells may_change before.store.shape (pages_in_frames before.store old.world) (pages_in_frames now.store new.world) (now.store.is_open ≡ true) answer (x.meets t may_change allows))
    (λ is. x.refuses (once_refused answer is))

-- ---- after a checkpoint

-- from a store that kept its pages, and has the same shape
meets_after : (tells : Type 0) (found : Option Record) (before mid now : FrameRunning) (w0 w1 w2 : World) → mid.store.shape ≡ before.store.shape → (may_change : ℕ → Bool) → KeepsPagesBut may_change (pages_in_frames before.store w0) (pages_in_frames mid.store w1) → (result : Result Bool StoreFault)
    → AllowsRecord may_change before.store.shape found
    → (AllowsRecord may_change mid.store.shape found → KeepsOrMeets tells may_change mid.store.shape (pages_in_frames mid.store w1) (pages_in_frames now.store w2) (now.store.is_open ≡ true) (λ id. IsErrOf result (BadPage id)))
    → KeepsOrMeets tells may_change before.store.shape (pages_in_frames before.store w0) (pages_in_frames now.store w2) (now.store.is_open ≡ true) (λ id. IsErrOf result (BadPage id))
meets_after tells found before mid now w0 w1 w2 shape may_change kept result allows meets =
    meets_then may_change (pages_in_frames before.store w0) (pages_in_frames mid.store w1) kept tells before.store.shape (pages_in_frames now.store w2) (now.store.is_open ≡ true) (λ id. IsErrOf result (BadPage id))
    (subst (λ (k : Shape). AllowsRecord may_change k found → KeepsOrMeets tells may_change k (pages_in_frames mid.store w1) (pages_in_frames now.store w2) (now.store.is_open ≡ true) (λ id. IsErrOf result (BadPage id))) shape meets allows)

module _ (tells : Type 0) (from : Place) (found : Option Record) (before mid now : FrameRunning) (h0 h1 h2 : History) (sound : tells → IsHistory h1) where
  module _ (checks : ChecksInFrames {T = Unit {0}} {E = StoreFault} tells from before mid h0 h1 (Ok tt)) (goes : GoesOnInFrames tells mid now h1 h2) where
    goes_room : HasSegmentsFor before.log 33 → HasSegmentsFor mid.log 32
    goes_room segments = omega (arith, segments, checks.rises)

    record_checked : (result : Result Bool StoreFault) → OnOk result (now.store.is_open ≡ true)
        → (tells → AllWellFormed mid.store.shape (pages_in_frames mid.store h1.world) → IfOk result (λ can. Replays can mid.store.shape found (map_in mid h1.world) (map_in now h2.world)))
        → (tells → AllWellFormed mid.store.shape (pages_in_frames mid.store h1.world) → NamesNoPage result)
        → (tells → (may_change : ℕ → Bool) → AllowsRecord may_change mid.store.shape found
        → KeepsOrMeets tells may_change mid.store.shape (pages_in_frames mid.store h1.world) (pages_in_frames now.store h2.world) (now.store.is_open ≡ true) (λ id. IsErrOf result (BadPage id)))
        → (result ≡ Ok false → CanBeRefused found) → ReplaysRecord tells from found before now h0 h2 result
    record_checked result opens applies none meets refuses = record {
      ready = ready_then tells before mid now h0 h1 h2 (Ok tt) result sound checks.ready (ready_applied tells mid now h1 h2 result goes opens);
      rises = on_ok_weaker result (λ (on : now.store.is_open ≡ true). omega (arith, goes.rises on, checks.rises)) opens;
      number = on_ok_weaker result (λ (on : now.store.is_open ≡ true). omega (arith, ap (λ (k : marked.Kept). number_of k.mark) goes.ckpt, checks.number)) opens;
      goes_on = λ t segments. on_ok_weaker result (λ (on : now.store.is_open ≡ true). omega (arith, (goes.grew t (goes_room segments) on).rises, checks.goes_on (omega (arith, segments)))) opens;
      log = λ t segments. on_ok_weaker result (λ (on : now.store.is_open ≡ true).
          λ seg low high.
          let room : HasSegmentsFor before.log 1 = omega (arith, segments) in
          extends_then (contents h0.world.log seg) (contents h1.world.log seg) (contents h2.world.log seg) (checks.log t room seg low high)
          ((goes.grew t (goes_room segments) on).begins seg (omega (arith, high, checks.goes_on room)))) opens;
      whole = λ t whole.
          let kept = checks.whole t whole in
          whole_after found before now h0.world h2.world result opens (λ on. goes.whole t on kept.pages)
          (as_before result checks.ready.same.shape kept.map (applies t kept.pages.well_formed));
      no_page = λ t whole. none t (checks.whole t whole).pages.well_formed;
      meets = λ t may_change allows.
          meets_after tells found before mid now h0.world h1.world h2.world checks.ready.same.shape may_change (checks.pages t may_change) result allows (meets t may_change);
      refuses = refuses;
      runs = λ t wanted told pairs s left is lasts makes segments numbered. by t wanted told pairs s left is lasts makes segments numbered result opens (applies t);
      crash = λ t wanted told pairs s left is lasts makes segments numbered.
          let P : World → Type 0 = CrashHoldsMap (before.log.end.seg + 34) (number_of before.ckpt.mark + 1) wanted before.store.shape pairs in
          let room : HasSegmentsFor before.log 1 = omega (arith, segments) in
          let first = checks.crash t wanted told pairs s left is lasts makes room numbered in
          let then_is = checks.runs t wanted told pairs s left is lasts makes room numbered in
          joined h0 h1 h2 P
          (map_moments (before.log.end.seg + 2) (number_of before.ckpt.mark + 1) (before.log.end.seg + 34) (number_of before.ckpt.mark + 1) wanted before.store.shape pairs h0 h1 (omega arith) (omega arith) first)
          (subst (λ (k : Shape). AllMoments h1 h2 (CrashHoldsMap (before.log.end.seg + 34) (number_of before.ckpt.mark + 1) wanted k pairs)) checks.ready.same.shape
          (map_moments (mid.log.end.seg + 33) (number_of mid.ckpt.mark) (before.log.end.seg + 34) (number_of before.ckpt.mark + 1) wanted mid.store.shape pairs h1 h2 (omega (arith, checks.rises)) (omega (arith, checks.number))
          (goes.crash t wanted told pairs then_is.state then_is.is (goes_room segments))));
    }
      where
        as_before : (r : Result Bool StoreFault) → mid.store.shape ≡ before.store.shape → map_in mid h1.world ≡ map_in before h0.world → IfOk r (λ can. Replays can mid.store.shape found (map_in mid h1.world) (map_in now h2.world))
            → IfOk r (λ can. Replays can before.store.shape found (map_in before h0.world) (map_in now h2.world))
        as_before r shape map app = subst (λ (q : Shape × Pairs). IfOk r (λ can. Replays can q.0 found q.1 (map_in now h2.world))) {x = (mid.store.shape, map_in mid h1.world)} {y = (before.store.shape, map_in before h0.world)} (λ i. (shape i, map i)) app

        by : (t : tells) (wanted : Shape) (told : List ℕ → ℕ) (pairs : Pairs) (s : State) (left : List Frame) (is : IsReplayingIn wanted told pairs before s h0.world) (lasts : AreLasting from left before.store.shape pairs s h0.world)
            (makes : all_replayed before.store.shape left (Some (map_in before h0.world)) ≡ Some pairs) (segments : HasSegmentsFor before.log 33) (numbered : number_of before.ckpt.mark + 1 < 2 ^ 64) (r : Result Bool StoreFault) → OnOk r (now.store.is_open ≡ true)
            → (AllWellFormed mid.store.shape (pages_in_frames mid.store h1.world) → IfOk r (λ can. Replays can mid.store.shape found (map_in mid h1.world) (map_in now h2.world))) → IfOk r (ReplaysRecordFrom wanted told pairs from left found before now h0.world h2.world)
        by t wanted told pairs s left is lasts makes segments numbered (Ok can) on app =
            let then_is = checks.runs t wanted told pairs s left is lasts makes (omega (arith, segments)) numbered in
            let goes_then = goes.runs t on wanted told pairs then_is.state then_is.is (goes_room segments) in
            record {
              state = goes_then.state;
              is = goes_then.is;
              lasts = goes_then.lasts from left (subst (λ (k : Shape). AreLasting from left k pairs then_is.state h1.world) (sym goes.same.shape) then_is.lasts);
              applies = subst (λ (q : Shape × Pairs). Replays can q.0 found q.1 (map_in now h2.world)) {x = (mid.store.shape, map_in mid h1.world)} {y = (before.store.shape, map_in before h0.world)} (λ i. (checks.ready.same.shape i, then_is.map i)) (app then_is.is.runs.holds.well_formed);
            }
        by t wanted told pairs s left is lasts makes segments numbered (Err fault) on app = tt

  err_not_ok : (r : Result Bool StoreFault) (can : Bool) → IsErr r → r ≡ Ok can → ⊥
  err_not_ok (Ok other) can err is = cc err
  err_not_ok (Err e) can err is = cc is

  -- it couldn't be made
  pub record_unchecked : (fault : StoreFault) (result : Result Bool StoreFault) → IsErr result → NamesNoPage result → ChecksInFrames {T = Unit {0}} {E = StoreFault} tells from before mid h0 h1 (Err fault) → ReplaysRecord tells from found before mid h0 h1 result
  record_unchecked fault result err none checks = record {
    ready = ready_err tells before mid h0 h1 (Err fault) result err checks.ready;
    rises = on_err result err (mid.log.end.seg ≤ before.log.end.seg + 33);
    number = on_err result err (number_of mid.ckpt.mark ≤ number_of before.ckpt.mark + 1);
    goes_on = λ t segments. on_err result err (before.log.end.seg ≤ mid.log.end.seg);
    log = λ t segments. on_err result err (KeepsLogFrom from.seg before.log.end.seg h0.world h1.world);
    whole = λ t whole. unapplied result err;
    no_page = λ t whole. none;
    meets = λ t may_change allows. record { keeps = λ on. absurd (false≢true (sym checks.closed ∙ on)); meets = λ id bad. absurd (none id bad) };
    refuses = λ is. absurd (err_not_ok result false err is);
    runs = λ t wanted told pairs s left is lasts makes segments numbered. by wanted told pairs left result err;
    crash = λ t wanted told pairs s left is lasts makes segments numbered.
        map_moments (before.log.end.seg + 2) (number_of before.ckpt.mark + 1) (before.log.end.seg + 34) (number_of before.ckpt.mark + 1) wanted before.store.shape pairs h0 h1 (omega arith) (omega arith)
        (checks.crash t wanted told pairs s left is lasts makes (omega (arith, segments)) numbered);
  }
    where
      unapplied : (r : Result Bool StoreFault) → IsErr r → IfOk r (AppliesToWhole found before mid h0.world h1.world)
      unapplied (Ok can) is = absurd cc
      unapplied (Err e) is = tt

      by : (wanted : Shape) (told : List ℕ → ℕ) (pairs : Pairs) (left : List Frame) (r : Result Bool StoreFault) → IsErr r → IfOk r (ReplaysRecordFrom wanted told pairs from left found before mid h0.world h1.world)
      by wanted told pairs left (Ok can) is = absurd cc
      by wanted told pairs left (Err e) is = tt

-- the same, of a record that isn't tried once more
pub record_after : (tells : Type 0) (from : Place) (found : Option Record) (before mid now : FrameRunning) (h0 h1 h2 : History) → (tells → IsHistory h1) → ChecksInFrames {T = Unit {0}} {E = StoreFault} tells from before mid h0 h1 (Ok tt)
    → (answer : Result Applied StoreFault) → AppliesRecord tells found mid now h1 h2 answer → ReplaysRecord tells from found before now h0 h2 (applied_once answer)
record_after tells from found before mid now h0 h1 h2 sound checks answer x =
    record_checked tells from found before mid now h0 h1 h2 sound checks x.goes_on (applied_once answer) (once_open answer (now.store.is_open ≡ true) x.is_open)
    (λ t well. once_applies answer mid.store.shape found (map_in mid h1.world) (map_in now h2.world) (x.over_well_formed t well).applies)
    (λ t well. once_no_page answer (x.over_well_formed t well).no_page)
    (λ t may_change allows. meets_once tells may_change mid.store.shape (pages_in_frames mid.store h1.world) (pages_in_frames now.store h2.world) (now.store.is_open ≡ true) answer (x.meets t may_change allows))
    (λ is. x.refuses (once_refused answer is))

-- ---- where it halted before

module _ (tells : Type 0) (from : Place) (found : Option Record) (before mid now : FrameRunning) (h0 h1 h2 : History) (sound : tells → IsHistory h1) (goes : GoesOnInFrames tells before mid h0 h1) (on : mid.store.is_open ≡ true) (log_is : mid.log ≡ before.log) (world_is : tells → h1.world ≡ h0.world)
    (map_is : tells → AllWellFormed before.store.shape (pages_in_frames before.store h0.world) → map_in mid h1.world ≡ map_in before h0.world) where
  end_is : mid.log.end.seg ≡ before.log.end.seg
  end_is = ap (λ (l : LogEnd). l.end.seg) log_is

  number_is : number_of mid.ckpt.mark ≡ number_of before.ckpt.mark
  number_is = ap (λ (k : marked.Kept). number_of k.mark) goes.ckpt

  room_is : (n : ℕ) → HasSegmentsFor before.log n → HasSegmentsFor mid.log n
  room_is n segments = subst (λ (l : LogEnd). HasSegmentsFor l n) (sym log_is) segments

  pub record_halted : (result : Result Bool StoreFault) → ReplaysRecord tells from found mid now h1 h2 result
      → (tells → (may_change : ℕ → Bool) → AllowsRecord may_change before.store.shape found → KeepsPagesBut may_change (pages_in_frames before.store h0.world) (pages_in_frames mid.store h1.world)) → ReplaysRecord tells from found before now h0 h2 result
  record_halted result x keeps = record {
    ready = ready_then {T = Unit {0}} {E = StoreFault} tells before mid now h0 h1 h2 (Ok tt) result sound (ready_applied tells before mid h0 h1 (Ok tt) goes on) x.ready;
    rises = on_ok_weaker result (λ (le : now.log.end.seg ≤ mid.log.end.seg + 33). omega (arith, le, end_is)) x.rises;
    number = on_ok_weaker result (λ (le : number_of now.ckpt.mark ≤ number_of mid.ckpt.mark + 1). omega (arith, le, number_is)) x.number;
    goes_on = λ t segments. on_ok_weaker result (λ (le : mid.log.end.seg ≤ now.log.end.seg). omega (arith, le, end_is)) (x.goes_on t (room_is 33 segments));
    log = λ t segments. subst (λ (q : ℕ × World). OnOk result (KeepsLogFrom from.seg q.0 q.1 h2.world)) {x = (mid.log.end.seg, h1.world)} {y = (before.log.end.seg, h0.world)} (λ i. (end_is i, world_is t i)) (x.log t (room_is 33 segments));
    whole = λ t whole. whole_then t whole result (x.whole t (goes.whole t on whole));
    no_page = λ t whole. x.no_page t (goes.whole t on whole);
    meets = λ t may_change allows. meets_after tells found before mid now h0.world h1.world h2.world goes.same.shape may_change (keeps t may_change allows) result allows (x.meets t may_change);
    refuses = x.refuses;
    runs = λ t wanted told pairs s left is lasts makes segments numbered.
        let first = goes.runs t on wanted told pairs s is (omega (arith, segments)) in
        by t is.runs.holds.well_formed wanted told pairs left result
        (x.runs t wanted told pairs first.state left first.is (first.lasts from left (subst (λ (k : Shape). AreLasting from left k pairs s h0.world) (sym goes.same.shape) lasts)) (makes_then t is.runs.holds.well_formed pairs left makes) (room_is 33 segments) (omega (arith, numbered, number_is)));
    crash = λ t wanted told pairs s left is lasts makes segments numbered.
        let P : World → Type 0 = CrashHoldsMap (before.log.end.seg + 34) (number_of before.ckpt.mark + 1) wanted before.store.shape pairs in
        let first = goes.runs t on wanted told pairs s is (omega (arith, segments)) in
        joined h0 h1 h2 P
        (map_moments (before.log.end.seg + 33) (number_of before.ckpt.mark) (before.log.end.seg + 34) (number_of before.ckpt.mark + 1) wanted before.store.shape pairs h0 h1 (omega arith) (omega arith) (goes.crash t wanted told pairs s is (omega (arith, segments))))
        (subst (λ (k : Shape). AllMoments h1 h2 (CrashHoldsMap (before.log.end.seg + 34) (number_of before.ckpt.mark + 1) wanted k pairs)) goes.same.shape
        (map_moments (mid.log.end.seg + 34) (number_of mid.ckpt.mark + 1) (before.log.end.seg + 34) (number_of before.ckpt.mark + 1) wanted mid.store.shape pairs h1 h2 (omega (arith, end_is)) (omega (arith, number_is))
        (x.crash t wanted told pairs first.state left first.is (first.lasts from left (subst (λ (k : Shape). AreLasting from left k pairs s h0.world) (sym goes.same.shape) lasts)) (makes_then t is.runs.holds.well_formed pairs left makes) (room_is 33 segments) (omega (arith, numbered, number_is)))));
  }
    where
      whole_then : (t : tells) → HasWholePages before.store h0.world → (r : Result Bool StoreFault) → IfOk r (AppliesToWhole found mid now h1.world h2.world) → IfOk r (AppliesToWhole found before now h0.world h2.world)
      whole_then t whole (Ok can) x = record {
        applies = subst (λ (q : Shape × Pairs). Replays can q.0 found q.1 (map_in now h2.world)) {x = (mid.store.shape, map_in mid h1.world)} {y = (before.store.shape, map_in before h0.world)} (λ i. (goes.same.shape i, map_is t whole.well_formed i)) x.applies;
        pages = x.pages;
      }
      whole_then t whole (Err fault) x = tt

      makes_then : (t : tells) → AllWellFormed before.store.shape (pages_in_frames before.store h0.world) → (pairs : Pairs) (left : List Frame) → all_replayed before.store.shape left (Some (map_in before h0.world)) ≡ Some pairs
          → all_replayed mid.store.shape left (Some (map_in mid h1.world)) ≡ Some pairs
      makes_then t well pairs left makes = subst (λ (q : Shape × Pairs). all_replayed q.0 left (Some q.1) ≡ Some pairs) {x = (before.store.shape, map_in before h0.world)} {y = (mid.store.shape, map_in mid h1.world)} (λ i. (sym goes.same.shape i, sym (map_is t well) i)) makes

      by : (t : tells) → AllWellFormed before.store.shape (pages_in_frames before.store h0.world) → (wanted : Shape) (told : List ℕ → ℕ) (pairs : Pairs) (left : List Frame) (r : Result Bool StoreFault) → IfOk r (ReplaysRecordFrom wanted told pairs from left found mid now h1.world h2.world)
          → IfOk r (ReplaysRecordFrom wanted told pairs from left found before now h0.world h2.world)
      by t well wanted told pairs left (Ok can) x = record {
        state = x.state;
        is = x.is;
        lasts = x.lasts;
        applies = subst (λ (q : Shape × Pairs). Replays can q.0 found q.1 (map_in now h2.world)) {x = (mid.store.shape, map_in mid h1.world)} {y = (before.store.shape, map_in before h0.world)} (λ i. (goes.same.shape i, map_is t well i)) x.applies;
      }
      by t well wanted told pairs left (Err fault) x = tt
