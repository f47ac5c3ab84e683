use Rattle.std.proofs.Common.{rules, ◌≡◌, inr, refl, sym, ◌∙◌, ap, subst}
use Rattle.std.specs.Prelude.{IsErrOf}
use Rattle.std.proofs.lemmas.Result.{err_from_is_err_and}
use Rattle.pm_types.specs.declared.fault.StoreFault.TheVariants.{BadRecord, BadPage}
use Rattle.pm_disk.specs.Worlds.{World}
use Rattle.pm_disk.proofs.Chain.{at_last}
use Rattle.pm_records.specs.LogFiles.{contents}
use Rattle.pm_marks.specs.InForce.{replay_of, marks_of}
use Rattle.pm_core.specs.Held.{in_force}
use Rattle.pm_core.specs.LogAlone.{image_of}
use Rattle.pm_core.proofs.OnlyDisk.{same_disk, then_disk}
use Rattle.pm_redo.specs.declared.opening.Base.{Base}
use Rattle.pm_redo.specs.Differences.{difference_from}
use Rattle.pm_redo.specs.LogEnds.{LogEndsAt}
use Rattle.pm_redo.specs.Rebuilding.{IsSame}
use Rattle.pm_redo.specs.Restoring.{IsLeft, IsBadLog, CutsLog, HasSegments, IsBase, IsFit, Restores, first_of, segment_bytes_of, left_state, KeepsBase, OnlyCutsLog}
use Rattle.pm_redo.proofs.Restored.{left_of, restores_within, restores_all, begins_after, restores_after, start_marks, replay_marks, leaves_store, fault_is}
use Rattle.pm_redo.proofs.FitMarks.{fit_mark}
use Rattle.pm_redo.proofs.RestoringSteps.{begins_none, on_err}
use Rattle.pm_redo.proofs.opening.restore.Goals as goal

pub returns-in_err-found-clause-within : goal.returns-in_err-found-clause-within
returns-in_err-found-clause-within g c t told shape pairs can =
    let old = g.H.Device.history c.args.host.now in
    let read = g.H.Device.history c.find.new.host in
    let wanted = c.args.wanted.now in
    restores_within wanted told shape pairs old read can
    (begins_none wanted told (in_force (image_of old.world)) (left_state can) old (left_of wanted told old.world shape pairs can) read (c.find.ensures.same t))

pub returns-in-Some-clause-within : goal.returns-in-Some-clause-within
returns-in-Some-clause-within g c t told shape pairs can =
    let old = g.H.Device.history c.args.host.now in
    let read = g.H.Device.history c.find.new.host in
    let wanted = c.args.wanted.now in
    restores_within wanted told shape pairs old read can
    (begins_none wanted told (in_force (image_of old.world)) (left_state can) old (left_of wanted told old.world shape pairs can) read (c.find.ensures.same t))

pub restore_log-requires-clause-marks : goal.restore_log-requires-clause-marks
restore_log-requires-clause-marks g c κs within t =
    let old = g.H.Device.history c.args.host.now in
    let read = g.H.Device.history c.find.new.host in
    let same = at_last old read (IsSame old.world) (g.H.Device.sound c.find.new.host t) (c.find.ensures.same t) in
    subst (λ (w : World). c.in_ok-found.found.marks ≡ marks_of (in_force (image_of w))) (sym same) (c.in_ok-found.ensures.marks t)

pub returns-in_err-log-clause-bad : goal.returns-in_err-log-clause-bad
returns-in_err-log-clause-bad g c t at is =
    let old = g.H.Device.history c.args.host.now in
    let read = g.H.Device.history c.find.new.host in
    let same = at_last old read (IsSame old.world) (g.H.Device.sound c.find.new.host t) (c.find.ensures.same t) in
    let its : IsErrOf c.restore_log.result (BadRecord at) = search rules in
    inr (subst (λ (w : World). IsBadLog (in_force (image_of w)) (contents w.log) at) same (c.restore_log.ensures.bad t at its).0)

pub returns-in_err-found-clause-only : goal.returns-in_err-found-clause-only
returns-in_err-found-clause-only g c t =
    let old = g.H.Device.history c.args.host.now in
    let read = g.H.Device.history c.find.new.host in
    let same = at_last old read (IsSame old.world) (g.H.Device.sound c.find.new.host t) (c.find.ensures.same t) in
    let out = err_from_is_err_and c.from_residual.result c.from_residual.ensures.1 in
    let fault = c.in_err-found.field-0.0 in
    record {
      disk = same_disk old read (c.find.ensures.same t);
      base = on_err c.from_residual.result (KeepsBase (in_force (image_of old.world)) old.world read.world) c.from_residual.ensures.0;
      log = on_err c.from_residual.result (OnlyCutsLog (in_force (image_of old.world)) old.world read.world) c.from_residual.ensures.0;
      untouched = leaves_store old.world read.world c.from_residual.result fault out.0 out.1 out.2 (λ at is. same)
          (λ page is. c.find.ensures.cause.no_page page (fault_is c.find.result fault (BadPage page) c.in_err-found.was is));
      differing = λ field is. c.find.ensures.same t;
    }

pub returns-in-Some-clause-only : goal.returns-in-Some-clause-only
returns-in-Some-clause-only g c t =
    let old = g.H.Device.history c.args.host.now in
    let read = g.H.Device.history c.find.new.host in
    record {
      disk = same_disk old read (c.find.ensures.same t);
      base = tt;
      log = tt;
      untouched = at_last old read (IsSame old.world) (g.H.Device.sound c.find.new.host t) (c.find.ensures.same t);
      differing = λ field is. c.find.ensures.same t;
    }

pub returns-in_err-log-clause-only : goal.returns-in_err-log-clause-only
returns-in_err-log-clause-only g c t =
    let old = g.H.Device.history c.args.host.now in
    let read = g.H.Device.history c.find.new.host in
    let new = g.H.Device.history c.restore_log.new.host in
    let same = at_last old read (IsSame old.world) (g.H.Device.sound c.find.new.host t) (c.find.ensures.same t) in
    let out = err_from_is_err_and c.from_residual-in_err-log.result c.from_residual-in_err-log.ensures.1 in
    let fault = c.in_err-log.field-0.0 in
    record {
      disk = then_disk old read new (g.H.Device.sound c.find.new.host t) (same_disk old read (c.find.ensures.same t)) (c.restore_log.ensures.files t).disk;
      base = on_err c.from_residual-in_err-log.result (KeepsBase (in_force (image_of old.world)) old.world new.world) c.from_residual-in_err-log.ensures.0;
      log = on_err c.from_residual-in_err-log.result (OnlyCutsLog (in_force (image_of old.world)) old.world new.world) c.from_residual-in_err-log.ensures.0;
      untouched = leaves_store old.world new.world c.from_residual-in_err-log.result fault out.0 out.1 out.2
          (λ at is. (c.restore_log.ensures.bad t at (fault_is c.restore_log.result fault (BadRecord at) c.in_err-log.was is)).1 ∙ same)
          (λ page is. c.restore_log.ensures.cause.no_page page (fault_is c.restore_log.result fault (BadPage page) c.in_err-log.was is));
      differing = λ field is. absurd (c.in_default.not-Some field (c.difference_from.ensures ∙ ap (λ f. difference_from f c.args.wanted.now) (c.in_ok-found.ensures.shape t) ∙ is));
    }

pub returns-clause-only : goal.returns-clause-only
returns-clause-only g c t =
    let old = g.H.Device.history c.args.host.now in
    let read = g.H.Device.history c.find.new.host in
    let new = g.H.Device.history c.restore_log.new.host in
    let same = at_last old read (IsSame old.world) (g.H.Device.sound c.find.new.host t) (c.find.ensures.same t) in
    record {
      disk = then_disk old read new (g.H.Device.sound c.find.new.host t) (same_disk old read (c.find.ensures.same t)) (c.restore_log.ensures.files t).disk;
      base = subst (λ (w : World). KeepsBase (in_force (image_of w)) w new.world) same (c.in_ok-log.ensures.files t).base;
      log = subst (λ (w : World). OnlyCutsLog (in_force (image_of w)) w new.world) same (c.in_ok-log.ensures.files t).log;
      untouched = tt;
      differing = λ field is. absurd (c.in_default.not-Some field (c.difference_from.ensures ∙ ap (λ f. difference_from f c.args.wanted.now) (c.in_ok-found.ensures.shape t) ∙ is));
    }

pub returns-in_err-log-clause-within : goal.returns-in_err-log-clause-within
returns-in_err-log-clause-within g c t told shape pairs can =
    let old = g.H.Device.history c.args.host.now in
    let read = g.H.Device.history c.find.new.host in
    let new = g.H.Device.history c.restore_log.new.host in
    let wanted = c.args.wanted.now in
    let s = left_state can in
    let same = at_last old read (IsSame old.world) (g.H.Device.sound c.find.new.host t) (c.find.ensures.same t) in
    let left = subst (λ (w : World). IsLeft wanted told (in_force (image_of w)) s w) (sym same) (left_of wanted told old.world shape pairs can) in
    restores_within wanted told shape pairs old new can (begins_after told s old read new same (c.find.ensures.same t) (c.restore_log.ensures.begun t wanted told s left))

pub returns-clause-within : goal.returns-clause-within
returns-clause-within g c t told shape pairs can =
    let old = g.H.Device.history c.args.host.now in
    let read = g.H.Device.history c.find.new.host in
    let new = g.H.Device.history c.restore_log.new.host in
    let wanted = c.args.wanted.now in
    let s = left_state can in
    let same = at_last old read (IsSame old.world) (g.H.Device.sound c.find.new.host t) (c.find.ensures.same t) in
    let left = subst (λ (w : World). IsLeft wanted told (in_force (image_of w)) s w) (sym same) (left_of wanted told old.world shape pairs can) in
    restores_within wanted told shape pairs old new can (begins_after told s old read new same (c.find.ensures.same t) (c.restore_log.ensures.begun t wanted told s left))

pub returns-clause-restored : goal.returns-clause-restored
returns-clause-restored g c t told shape pairs can =
    let old = g.H.Device.history c.args.host.now in
    let read = g.H.Device.history c.find.new.host in
    let new = g.H.Device.history c.restore_log.new.host in
    let wanted = c.args.wanted.now in
    let s = left_state can in
    let same = at_last old read (IsSame old.world) (g.H.Device.sound c.find.new.host t) (c.find.ensures.same t) in
    let left = subst (λ (w : World). IsLeft wanted told (in_force (image_of w)) s w) (sym same) (left_of wanted told old.world shape pairs can) in
    let made = c.in_ok-log.ensures.restored t wanted told s left in
    let there = restores_after told s old read new same (c.find.ensures.same t) (in_force (image_of read.world)) made in
    restores_all wanted told shape pairs old new can (subst (λ (w : World). Restores told (in_force (image_of w)) s old new) same there)

pub returns-clause-base : goal.returns-clause-base
returns-clause-base g c =
    let old = g.H.Device.history c.args.host.now in
    let read = g.H.Device.history c.find.new.host in
    let wanted = c.args.wanted.now in
    let marks = c.in_ok-found.found.marks in
    let checkpoint = in_force (image_of old.world) in
    let now = (g.H.Device.history c.restore_log.new.host).world in
    subst (λ (b : Base). IsFit wanted b × (g.H.Device.tells → IsBase checkpoint wanted (contents old.world.log) now b)) (sym c.with_log.ensures) (
      record {
        marked = fit_mark marks.start c.in_ok-found.found.shape wanted c.requires.wanted c.in_ok-found.ensures.fits c.in_ok-found.ensures.marked (search rules);
        replay = refl;
        ends = refl;
        cut = c.in_ok-log.ensures.cut;
      },
      λ t.
          let same = at_last old read (IsSame old.world) (g.H.Device.sound c.find.new.host t) (c.find.ensures.same t) in
          let is = c.in_ok-found.ensures.marks t in
          let cut = subst (λ (w : World). CutsLog (contents w.log) (replay_of (in_force (image_of w))) (segment_bytes_of (in_force (image_of w)) wanted.segment_bytes) c.in_ok-log.log) same (c.in_ok-log.ensures.log t) in
          let has = subst (λ (w : World). HasSegments (first_of (in_force (image_of w))) now c.in_ok-log.log) same (c.in_ok-log.ensures.there t) in
          record {
            shape = c.in_ok-found.ensures.shape t;
            mark = start_marks checkpoint marks is;
            replay = replay_marks checkpoint marks is;
            ends = subst (λ p. LogEndsAt (contents old.world.log) p c.in_ok-log.log.end) (sym (replay_marks checkpoint marks is)) cut.ends;
            cut = cut.is;
            there = has.ends;
            lowest = has.lowest;
          },
    )
