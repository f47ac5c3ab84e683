use Rattle.std.proofs.Common.{refl, sym, subst}
use Rattle.std.specs.Prelude.{OnOk}
use Rattle.std.proofs.lemmas.Result.{on_ok_weaker}
use Rattle.pm_disk.proofs.Chain.{started}
use Rattle.pm_records.specs.LogFiles.{contents}
use Rattle.pm_marks.specs.InForce.{Checkpoint, NoStart, Ended}
use Rattle.pm_core.specs.Held.{in_force}
use Rattle.pm_core.specs.LogAlone.{image_of}
use Rattle.pm_redo.specs.Rebuilding.{IsSame}
use Rattle.pm_redo.specs.Restoring.{IsLeft, IsBadLog, KeepsBase, OnlyCutsLog, Restores, RestoresFiles}
use Rattle.pm_redo.proofs.KeptBase.{cut_pages, cut_alone, ended_kept, none_kept}
use Rattle.pm_redo.proofs.Restored.{is_ended, no_start}
use Rattle.pm_redo.proofs.RestoringSteps.{begins_cut, cut_world, cut_restores}
use Rattle.pm_redo.proofs.StartMarks.{is_started}
use Rattle.pm_redo.proofs.cutting.restore_log.Goals as goal

pub returns-then-marks-clause-begun : goal.returns-then-marks-clause-begun
returns-then-marks-clause-begun g c t wanted told s left =
    let old = g.H.Device.history c.args.host.now in
    let new = g.H.Device.history c.cut_log.new.host in
    let mark = c.in-Some.mark in
    let ended = is_ended (in_force (image_of old.world)) c.args.marks.now mark (c.requires.marks t) c.in-Some.is c.if-marks.true in
    let there = subst (λ (checkpoint : Checkpoint). IsLeft wanted told checkpoint s old.world) ended left in
    begins_cut wanted told (Ended mark) s old there old new c.cut_log.result refl (started old (IsSame old.world) (g.H.Device.sound c.args.host.now t) refl) (c.cut_log.ensures.steps t s.at there.ends)

pub returns-then-marks-clause-restored : goal.returns-then-marks-clause-restored
returns-then-marks-clause-restored g c t wanted told s left =
    let old = g.H.Device.history c.args.host.now in
    let new = g.H.Device.history c.cut_log.new.host in
    let mark = c.in-Some.mark in
    let ended = is_ended (in_force (image_of old.world)) c.args.marks.now mark (c.requires.marks t) c.in-Some.is c.if-marks.true in
    let there = subst (λ (checkpoint : Checkpoint). IsLeft wanted told checkpoint s old.world) ended left in
    let first = started old (IsSame old.world) (g.H.Device.sound c.args.host.now t) refl in
    let steps = c.cut_log.ensures.steps t s.at there.ends in
    on_ok_weaker c.cut_log.result
    (λ is. subst (λ (checkpoint : Checkpoint). Restores told checkpoint s old new) (sym ended) (cut_restores wanted told (Ended mark) s old there old new c.cut_log.result refl first steps refl there.rebuilt is))
    (cut_world wanted told (Ended mark) s old there old new c.cut_log.result refl first steps)

pub returns-then-marks-clause-files : goal.returns-then-marks-clause-files
returns-then-marks-clause-files g c t =
    let old = g.H.Device.history c.args.host.now in
    let new = g.H.Device.history c.cut_log.new.host in
    let mark = c.in-Some.mark in
    let ended = is_ended (in_force (image_of old.world)) c.args.marks.now mark (c.requires.marks t) c.in-Some.is c.if-marks.true in
    record {
      disk = c.cut_log.ensures.disk t;
      base = on_ok_weaker c.cut_log.result (λ same. subst (λ (checkpoint : Checkpoint). KeepsBase checkpoint old.world new.world) (sym ended) (ended_kept mark old.world new.world same))
          (cut_pages c.cut_log.result old new _ _ (c.cut_log.ensures.log t) (c.cut_log.ensures.steps t));
      log = subst (λ (checkpoint : Checkpoint). OnOk c.cut_log.result (OnlyCutsLog checkpoint old.world new.world)) (sym ended) (cut_alone c.cut_log.result (Ended mark) old new (c.cut_log.ensures.steps t));
    }

pub returns-else-marks-clause-files : goal.returns-else-marks-clause-files
returns-else-marks-clause-files g c t =
    let old = g.H.Device.history c.args.host.now in
    let new = g.H.Device.history c.restore_started.new.host in
    let begun = is_started (in_force (image_of old.world)) c.args.marks.now c.in-Some.mark (c.requires.marks t) c.in-Some.is c.if-marks.false in
    subst (λ (checkpoint : Checkpoint). RestoresFiles checkpoint old new c.restore_started.result) (sym begun) (c.restore_started.ensures.files t)

pub returns-in-None-clause-files : goal.returns-in-None-clause-files
returns-in-None-clause-files g c t =
    let old = g.H.Device.history c.args.host.now in
    let new = g.H.Device.history c.cut_log-in-None.new.host in
    let none = no_start (in_force (image_of old.world)) c.args.marks.now (c.requires.marks t) c.in-None.is in
    record {
      disk = c.cut_log-in-None.ensures.disk t;
      base = on_ok_weaker c.cut_log-in-None.result (λ same. subst (λ (checkpoint : Checkpoint). KeepsBase checkpoint old.world new.world) (sym none) (none_kept old.world new.world same))
          (cut_pages c.cut_log-in-None.result old new _ _ (c.cut_log-in-None.ensures.log t) (c.cut_log-in-None.ensures.steps t));
      log = subst (λ (checkpoint : Checkpoint). OnOk c.cut_log-in-None.result (OnlyCutsLog checkpoint old.world new.world)) (sym none) (cut_alone c.cut_log-in-None.result NoStart old new (c.cut_log-in-None.ensures.steps t));
    }

pub returns-else-marks-clause-bad : goal.returns-else-marks-clause-bad
returns-else-marks-clause-bad g c t at is =
    let old = g.H.Device.history c.args.host.now in
    let begun = is_started (in_force (image_of old.world)) c.args.marks.now c.in-Some.mark (c.requires.marks t) c.in-Some.is c.if-marks.false in
    let bad = c.restore_started.ensures.bad t at is in
    (subst (λ (checkpoint : Checkpoint). IsBadLog checkpoint (contents old.world.log) at) (sym begun) bad.0, bad.1)

pub returns-else-marks-clause-begun : goal.returns-else-marks-clause-begun
returns-else-marks-clause-begun g c t wanted told s left =
    let old = g.H.Device.history c.args.host.now in
    let begun = is_started (in_force (image_of old.world)) c.args.marks.now c.in-Some.mark (c.requires.marks t) c.in-Some.is c.if-marks.false in
    c.restore_started.ensures.begun t wanted told s (subst (λ (checkpoint : Checkpoint). IsLeft wanted told checkpoint s old.world) begun left)

pub returns-else-marks-clause-restored : goal.returns-else-marks-clause-restored
returns-else-marks-clause-restored g c t wanted told s left =
    let old = g.H.Device.history c.args.host.now in
    let new = g.H.Device.history c.restore_started.new.host in
    let begun = is_started (in_force (image_of old.world)) c.args.marks.now c.in-Some.mark (c.requires.marks t) c.in-Some.is c.if-marks.false in
    on_ok_weaker c.restore_started.result (λ made. subst (λ (checkpoint : Checkpoint). Restores told checkpoint s old new) (sym begun) made)
    (c.restore_started.ensures.restored t wanted told s (subst (λ (checkpoint : Checkpoint). IsLeft wanted told checkpoint s old.world) begun left))

pub returns-in-None-clause-begun : goal.returns-in-None-clause-begun
returns-in-None-clause-begun g c t wanted told s left =
    let old = g.H.Device.history c.args.host.now in
    let new = g.H.Device.history c.cut_log-in-None.new.host in
    let none = no_start (in_force (image_of old.world)) c.args.marks.now (c.requires.marks t) c.in-None.is in
    let there = subst (λ (checkpoint : Checkpoint). IsLeft wanted told checkpoint s old.world) none left in
    begins_cut wanted told NoStart s old there old new c.cut_log-in-None.result refl (started old (IsSame old.world) (g.H.Device.sound c.args.host.now t) refl) (c.cut_log-in-None.ensures.steps t s.at there.ends)

pub returns-in-None-clause-restored : goal.returns-in-None-clause-restored
returns-in-None-clause-restored g c t wanted told s left =
    let old = g.H.Device.history c.args.host.now in
    let new = g.H.Device.history c.cut_log-in-None.new.host in
    let none = no_start (in_force (image_of old.world)) c.args.marks.now (c.requires.marks t) c.in-None.is in
    let there = subst (λ (checkpoint : Checkpoint). IsLeft wanted told checkpoint s old.world) none left in
    let first = started old (IsSame old.world) (g.H.Device.sound c.args.host.now t) refl in
    let steps = c.cut_log-in-None.ensures.steps t s.at there.ends in
    on_ok_weaker c.cut_log-in-None.result
    (λ is. subst (λ (checkpoint : Checkpoint). Restores told checkpoint s old new) (sym none) (cut_restores wanted told NoStart s old there old new c.cut_log-in-None.result refl first steps refl there.rebuilt is))
    (cut_world wanted told NoStart s old there old new c.cut_log-in-None.result refl first steps)
