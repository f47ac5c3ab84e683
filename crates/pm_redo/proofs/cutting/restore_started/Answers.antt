use Rattle.std.proofs.Common.{rules, inl, inr, refl, sym, ◌∙◌, ap, subst}
use Rattle.std.specs.Prelude.{IsErrOf}
use Rattle.pm_types.specs.declared.fault.StoreFault.TheVariants.{BadRecord}
use Rattle.pm_disk.specs.Moments.{AllMoments}
use Rattle.pm_disk.specs.Worlds.{World}
use Rattle.pm_disk.proofs.Chain.{at_last}
use Rattle.pm_records.specs.LogFiles.{contents}
use Rattle.pm_records.specs.LogSteps.{cut_steps, world_after}
use Rattle.pm_marks.specs.InForce.{Started}
use Rattle.pm_core.specs.Calls.{ChangesDisk}
use Rattle.pm_core.proofs.OnlyDisk.{same_disk, then_disk}
use Rattle.pm_redo.specs.LogEnds.{LogEndsAt}
use Rattle.pm_redo.specs.Rebuilding.{IsSame}
use Rattle.pm_redo.specs.Restoring.{CutsLog, HasSegments, IsPastEnd}
use Rattle.pm_redo.proofs.LowestKept.{segments_stay}
use Rattle.pm_redo.proofs.KeptBase.{failed_files, started_kept}
use Rattle.pm_redo.proofs.RestoringSteps.{begins_none, begins_cut, begins_then, restores_then, cut_world, cut_state, may_end}
use Rattle.pm_redo.proofs.cutting.restore_started.Goals as goal

pub returns-in_err-rebuilt-clause-begun : goal.returns-in_err-rebuilt-clause-begun
returns-in_err-rebuilt-clause-begun g c t wanted told s left =
    begins_none wanted told (Started c.args.mark.now) s (g.H.Device.history c.args.host.now) left (g.H.Device.history c.rebuild.new.host) (c.rebuild.ensures.same t)

pub returns-in_err-pages-clause-begun : goal.returns-in_err-pages-clause-begun
returns-in_err-pages-clause-begun g c t wanted told s left =
    begins_none wanted told (Started c.args.mark.now) s (g.H.Device.history c.args.host.now) left (g.H.Device.history c.rebuild.new.host) (c.rebuild.ensures.same t)

pub returns-in_err-log-clause-bad : goal.returns-in_err-log-clause-bad
returns-in_err-log-clause-bad g c t at is =
    let old = g.H.Device.history c.args.host.now in
    let read = g.H.Device.history c.rebuild.new.host in
    let same = at_last old read (IsSame old.world) (g.H.Device.sound c.rebuild.new.host t) (c.rebuild.ensures.same t) in
    let its : IsErrOf c.cut_log.result (BadRecord at) = search rules in
    (inr (subst (λ (w : World). IsPastEnd (contents w.log) c.args.mark.now.replay at) same (c.cut_log.ensures.bad t at its)), c.cut_log.ensures.untouched t at its ∙ same)

pub returns-in_err-log-clause-begun : goal.returns-in_err-log-clause-begun
returns-in_err-log-clause-begun g c t wanted told s left =
    let old = g.H.Device.history c.args.host.now in
    let read = g.H.Device.history c.rebuild.new.host in
    let mark = c.args.mark.now in
    let same = at_last old read (IsSame old.world) (g.H.Device.sound c.rebuild.new.host t) (c.rebuild.ensures.same t) in
    let ends = subst (λ (w : World). LogEndsAt (contents w.log) mark.replay s.at) (sym same) left.ends in
    begins_cut wanted told (Started mark) s old left read (g.H.Device.history c.cut_log.new.host) c.cut_log.result same (c.rebuild.ensures.same t) (c.cut_log.ensures.steps t s.at ends)

pub returns-in_err-end_checkpoint-clause-begun : goal.returns-in_err-end_checkpoint-clause-begun
returns-in_err-end_checkpoint-clause-begun g c t wanted told s left =
    let old = g.H.Device.history c.args.host.now in
    let read = g.H.Device.history c.rebuild.new.host in
    let cut = g.H.Device.history c.cut_log.new.host in
    let mark = c.args.mark.now in
    let first = c.rebuild.ensures.same t in
    let same = at_last old read (IsSame old.world) (g.H.Device.sound c.rebuild.new.host t) first in
    let ends = subst (λ (w : World). LogEndsAt (contents w.log) mark.replay s.at) (sym same) left.ends in
    let cuts = c.in_ok-log.ensures.steps t s.at ends in
    let is = cut_world wanted told (Started mark) s old left read cut _ same first cuts in
    let may = may_end wanted told mark c.in_ok-rebuilt.rebuilt c.in_ok-pages.pages.items s old cut left is (c.in_ok-rebuilt.ensures.rebuilds t) c.in_ok-rebuilt.ensures.shape c.in_ok-pages.ensures in
    begins_then wanted told (Started mark) s old left read cut _ same first cuts is (g.H.Device.history c.end_checkpoint.new.host) (c.end_checkpoint.ensures.begun t wanted told (cut_state wanted told (Started mark) s old left) may)

pub returns-clause-log : goal.returns-clause-log
returns-clause-log g c t =
    let old = g.H.Device.history c.args.host.now in
    let read = g.H.Device.history c.rebuild.new.host in
    let mark = c.args.mark.now in
    let same = at_last old read (IsSame old.world) (g.H.Device.sound c.rebuild.new.host t) (c.rebuild.ensures.same t) in
    subst (λ (w : World). CutsLog (contents w.log) mark.replay mark.shape.segment_bytes c.in_ok-log.log) same (c.in_ok-log.ensures.log t)

pub returns-clause-begun : goal.returns-clause-begun
returns-clause-begun g c t wanted told s left =
    let old = g.H.Device.history c.args.host.now in
    let read = g.H.Device.history c.rebuild.new.host in
    let cut = g.H.Device.history c.cut_log.new.host in
    let mark = c.args.mark.now in
    let first = c.rebuild.ensures.same t in
    let same = at_last old read (IsSame old.world) (g.H.Device.sound c.rebuild.new.host t) first in
    let ends = subst (λ (w : World). LogEndsAt (contents w.log) mark.replay s.at) (sym same) left.ends in
    let cuts = c.in_ok-log.ensures.steps t s.at ends in
    let is = cut_world wanted told (Started mark) s old left read cut _ same first cuts in
    let may = may_end wanted told mark c.in_ok-rebuilt.rebuilt c.in_ok-pages.pages.items s old cut left is (c.in_ok-rebuilt.ensures.rebuilds t) c.in_ok-rebuilt.ensures.shape c.in_ok-pages.ensures in
    begins_then wanted told (Started mark) s old left read cut _ same first cuts is (g.H.Device.history c.end_checkpoint.new.host) (c.end_checkpoint.ensures.begun t wanted told (cut_state wanted told (Started mark) s old left) may)

pub returns-clause-restored : goal.returns-clause-restored
returns-clause-restored g c t wanted told s left =
    let old = g.H.Device.history c.args.host.now in
    let read = g.H.Device.history c.rebuild.new.host in
    let cut = g.H.Device.history c.cut_log.new.host in
    let mark = c.args.mark.now in
    let first = c.rebuild.ensures.same t in
    let same = at_last old read (IsSame old.world) (g.H.Device.sound c.rebuild.new.host t) first in
    let ends = subst (λ (w : World). LogEndsAt (contents w.log) mark.replay s.at) (sym same) left.ends in
    let cuts = c.in_ok-log.ensures.steps t s.at ends in
    let is = cut_world wanted told (Started mark) s old left read cut _ same first cuts in
    let may = may_end wanted told mark c.in_ok-rebuilt.rebuilt c.in_ok-pages.pages.items s old cut left is (c.in_ok-rebuilt.ensures.rebuilds t) c.in_ok-rebuilt.ensures.shape c.in_ok-pages.ensures in
    restores_then wanted told (Started mark) s old left read cut _ same first cuts is (g.H.Device.history c.end_checkpoint.new.host) mark refl (c.in_ok-end_checkpoint.ensures.ended t wanted told (cut_state wanted told (Started mark) s old left) may)
    (c.in_ok-end_checkpoint.ensures.log t)

pub returns-clause-there : goal.returns-clause-there
returns-clause-there g c t =
    let there = c.in_ok-log.ensures.there t in
    let same = c.in_ok-end_checkpoint.ensures.log t in
    let cut = (g.H.Device.history c.cut_log.new.host).world in
    let new = (g.H.Device.history c.end_checkpoint.new.host).world in
    subst (λ n. HasSegments n new c.in_ok-log.log) c.first_kept.ensures (segments_stay cut new c.first_kept.result c.in_ok-log.log same there)

pub returns-in_err-rebuilt-clause-bad : goal.returns-in_err-rebuilt-clause-bad
returns-in_err-rebuilt-clause-bad g c t at is =
    let old = g.H.Device.history c.args.host.now in
    let read = g.H.Device.history c.rebuild.new.host in
    let its : IsErrOf c.rebuild.result (BadRecord at) = search rules in
    (inl (c.rebuild.ensures.bad t at its), at_last old read (IsSame old.world) (g.H.Device.sound c.rebuild.new.host t) (c.rebuild.ensures.same t))

pub returns-in_err-rebuilt-clause-files : goal.returns-in_err-rebuilt-clause-files
returns-in_err-rebuilt-clause-files g c t =
    failed_files (Started c.args.mark.now) (g.H.Device.history c.args.host.now) (g.H.Device.history c.rebuild.new.host) c.from_residual.result c.from_residual.ensures.0
    (same_disk (g.H.Device.history c.args.host.now) (g.H.Device.history c.rebuild.new.host) (c.rebuild.ensures.same t))

pub returns-in_err-pages-clause-files : goal.returns-in_err-pages-clause-files
returns-in_err-pages-clause-files g c t =
    failed_files (Started c.args.mark.now) (g.H.Device.history c.args.host.now) (g.H.Device.history c.rebuild.new.host) c.from_residual-in_err-pages.result c.from_residual-in_err-pages.ensures.0
    (same_disk (g.H.Device.history c.args.host.now) (g.H.Device.history c.rebuild.new.host) (c.rebuild.ensures.same t))

pub returns-in_err-log-clause-files : goal.returns-in_err-log-clause-files
returns-in_err-log-clause-files g c t =
    let disk : AllMoments (g.H.Device.history c.args.host.now) (g.H.Device.history c.cut_log.new.host) (ChangesDisk (g.H.Device.history c.args.host.now).world) =
    let old = g.H.Device.history c.args.host.now in
    let read = g.H.Device.history c.rebuild.new.host in
    then_disk old read (g.H.Device.history c.cut_log.new.host) (g.H.Device.sound c.rebuild.new.host t) (same_disk old read (c.rebuild.ensures.same t)) (c.cut_log.ensures.disk t) in
    failed_files (Started c.args.mark.now) (g.H.Device.history c.args.host.now) (g.H.Device.history c.cut_log.new.host) c.from_residual-in_err-log.result c.from_residual-in_err-log.ensures.0 disk

pub returns-in_err-end_checkpoint-clause-files : goal.returns-in_err-end_checkpoint-clause-files
returns-in_err-end_checkpoint-clause-files g c t =
    let disk : AllMoments (g.H.Device.history c.args.host.now) (g.H.Device.history c.end_checkpoint.new.host) (ChangesDisk (g.H.Device.history c.args.host.now).world) =
    let old = g.H.Device.history c.args.host.now in
    let read = g.H.Device.history c.rebuild.new.host in
    let cut = g.H.Device.history c.cut_log.new.host in
    then_disk old cut (g.H.Device.history c.end_checkpoint.new.host) (g.H.Device.sound c.cut_log.new.host t)
    (then_disk old read cut (g.H.Device.sound c.rebuild.new.host t) (same_disk old read (c.rebuild.ensures.same t)) (c.cut_log.ensures.disk t)) (c.end_checkpoint.ensures.disk t) in
    failed_files (Started c.args.mark.now) (g.H.Device.history c.args.host.now) (g.H.Device.history c.end_checkpoint.new.host) c.from_residual-in_err-end_checkpoint.result c.from_residual-in_err-end_checkpoint.ensures.0 disk

pub returns-clause-files : goal.returns-clause-files
returns-clause-files g c t =
    let old = g.H.Device.history c.args.host.now in
    let read = g.H.Device.history c.rebuild.new.host in
    let cut = g.H.Device.history c.cut_log.new.host in
    let new = g.H.Device.history c.end_checkpoint.new.host in
    let same = at_last old read (IsSame old.world) (g.H.Device.sound c.rebuild.new.host t) (c.rebuild.ensures.same t) in
    let pages = ap (λ (w : World). w.pages) (c.in_ok-log.ensures.steps t c.in_ok-log.log.end (c.in_ok-log.ensures.log t).ends).all in
    record {
      disk = then_disk old cut (g.H.Device.history c.end_checkpoint.new.host) (g.H.Device.sound c.cut_log.new.host t)
          (then_disk old read cut (g.H.Device.sound c.rebuild.new.host t) (same_disk old read (c.rebuild.ensures.same t)) (c.cut_log.ensures.disk t)) (c.end_checkpoint.ensures.disk t);
      base = started_kept c.args.mark.now c.in_ok-rebuilt.rebuilt old.world cut.world new.world c.in_ok-rebuilt.ensures.shape (c.in_ok-rebuilt.ensures.rebuilds t)
          (pages ∙ ap (λ (w : World). w.pages) same) (c.in_ok-end_checkpoint.ensures.pages t c.in_ok-pages.ensures);
      log = λ end ends.
          let there = subst (λ (w : World). LogEndsAt (contents w.log) c.args.mark.now.replay end) (sym same) ends in
          c.in_ok-end_checkpoint.ensures.log t ∙ ap (λ (w : World). w.log) (c.in_ok-log.ensures.steps t end there).all ∙ ap (λ (w : World). (world_after cut_steps end w).log) same;
    }
