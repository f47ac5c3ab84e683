use Rattle.std.proofs.Common.{◌≡◌, ◌≤◌, length, sym, ◌∙◌, ap, subst}
use Rattle.pm_types.specs.declared.place.Place.{Place}
use Rattle.pm_disk.specs.Worlds.{World}
use Rattle.pm_disk.proofs.Chain.{at_last}
use Rattle.pm_records.specs.LogFiles.{contents}
use Rattle.pm_records.specs.LogSteps.{DoesSteps, cut_steps, world_after}
use Rattle.pm_core.proofs.OnlyDisk.{logs_disk, reads_disk, same_disk, then_disk}
use Rattle.pm_redo.specs.LogEnds.{LogEndsAt}
use Rattle.pm_redo.specs.Rebuilding.{IsSame}
use Rattle.pm_redo.proofs.RestoringSteps.{one_end, end_within, read_then, read_and_cut, on_err}
use Rattle.pm_redo.proofs.cutting.cut_log.Goals as goal

pub cut_at-requires-clause-long : goal.cut_at-requires-clause-long
cut_at-requires-clause-long g c κs within t =
    let old = g.H.Device.history c.args.host.now in
    let read = g.H.Device.history c.reaches.new.host in
    let mid = g.H.Device.history c.log_end.new.host in
    let one : read.world ≡ old.world = (c.in_ok-reaches.ensures.does t).ok in
    let two = at_last read mid (IsSame read.world) (g.H.Device.sound c.log_end.new.host t) (c.log_end.ensures.same t) in
    let ends = subst (λ (w : World). LogEndsAt (contents w.log) c.args.replay c.in_ok-end.end) one (c.in_ok-end.ensures.ends t) in
    let within = (c.in_ok-reaches.ensures.reaches t).0 c.if-not-branch.false in
    subst (λ (w : World). c.in_ok-end.end.off ≤ length (contents w.log c.in_ok-end.end.seg)) (sym (two ∙ one)) (end_within (contents old.world.log) c.args.replay c.in_ok-end.end within ends)

pub returns-in_err-cut_at-clause-steps : goal.returns-in_err-cut_at-clause-steps
returns-in_err-cut_at-clause-steps g c t end ends =
    let old = g.H.Device.history c.args.host.now in
    let read = g.H.Device.history c.reaches.new.host in
    let mid = g.H.Device.history c.log_end.new.host in
    let new = g.H.Device.history c.cut_at.new.host in
    let one : read.world ≡ old.world = (c.in_ok-reaches.ensures.does t).ok in
    let two = at_last read mid (IsSame read.world) (g.H.Device.sound c.log_end.new.host t) (c.log_end.ensures.same t) in
    let found = subst (λ (w : World). LogEndsAt (contents w.log) c.args.replay c.in_ok-end.end) one (c.in_ok-end.ensures.ends t) in
    let is = one_end (contents old.world.log) c.args.replay c.in_ok-end.end end found ends in
    let first = read_then old read mid c.reaches.result (g.H.Device.sound c.args.host.now t) (c.reaches.ensures.does t) (c.log_end.ensures.same t) in
    record {
      all = on_err c.from_residual-in_err-cut_at.result (new.world ≡ world_after cut_steps end old.world) c.from_residual-in_err-cut_at.ensures.0;
      moments = read_and_cut old mid new c.cut_at.result end (two ∙ one) first (subst (λ (p : Place). DoesSteps mid new c.cut_at.result cut_steps p) is (c.cut_at.ensures.steps t));
    }

pub returns-clause-steps : goal.returns-clause-steps
returns-clause-steps g c t end ends =
    let old = g.H.Device.history c.args.host.now in
    let read = g.H.Device.history c.reaches.new.host in
    let mid = g.H.Device.history c.log_end.new.host in
    let new = g.H.Device.history c.cut_at.new.host in
    let one : read.world ≡ old.world = (c.in_ok-reaches.ensures.does t).ok in
    let two = at_last read mid (IsSame read.world) (g.H.Device.sound c.log_end.new.host t) (c.log_end.ensures.same t) in
    let found = subst (λ (w : World). LogEndsAt (contents w.log) c.args.replay c.in_ok-end.end) one (c.in_ok-end.ensures.ends t) in
    let is = one_end (contents old.world.log) c.args.replay c.in_ok-end.end end found ends in
    let first = read_then old read mid c.reaches.result (g.H.Device.sound c.args.host.now t) (c.reaches.ensures.does t) (c.log_end.ensures.same t) in
    record {
      all = (c.in_ok-cut_at.ensures.steps t).all ∙ ap (world_after cut_steps c.in_ok-end.end) (two ∙ one) ∙ ap (λ p. world_after cut_steps p old.world) is;
      moments = read_and_cut old mid new c.cut_at.result end (two ∙ one) first (subst (λ (p : Place). DoesSteps mid new c.cut_at.result cut_steps p) is (c.cut_at.ensures.steps t));
    }

pub returns-in_err-reaches-clause-disk : goal.returns-in_err-reaches-clause-disk
returns-in_err-reaches-clause-disk g c t =
    reads_disk (g.H.Device.history c.args.host.now) (g.H.Device.history c.reaches.new.host) c.reaches.result (g.H.Device.sound c.args.host.now t) (c.reaches.ensures.does t)

pub returns-then-not-branch-clause-disk : goal.returns-then-not-branch-clause-disk
returns-then-not-branch-clause-disk g c t =
    reads_disk (g.H.Device.history c.args.host.now) (g.H.Device.history c.reaches.new.host) c.reaches.result (g.H.Device.sound c.args.host.now t) (c.reaches.ensures.does t)

pub returns-in_err-end-clause-disk : goal.returns-in_err-end-clause-disk
returns-in_err-end-clause-disk g c t =
    let old = g.H.Device.history c.args.host.now in
    let mid = g.H.Device.history c.log_end.new.host in
    same_disk old mid (read_then old (g.H.Device.history c.reaches.new.host) mid c.reaches.result (g.H.Device.sound c.args.host.now t) (c.reaches.ensures.does t) (c.log_end.ensures.same t))

pub returns-in_err-cut_at-clause-disk : goal.returns-in_err-cut_at-clause-disk
returns-in_err-cut_at-clause-disk g c t =
    let old = g.H.Device.history c.args.host.now in
    let mid = g.H.Device.history c.log_end.new.host in
    let new = g.H.Device.history c.cut_at.new.host in
    then_disk old mid new (g.H.Device.sound c.log_end.new.host t)
    (same_disk old mid (read_then old (g.H.Device.history c.reaches.new.host) mid c.reaches.result (g.H.Device.sound c.args.host.now t) (c.reaches.ensures.does t) (c.log_end.ensures.same t)))
    (logs_disk mid new cut_steps c.in_ok-end.end (c.cut_at.ensures.steps t).moments)

pub returns-clause-disk : goal.returns-clause-disk
returns-clause-disk g c t =
    let old = g.H.Device.history c.args.host.now in
    let mid = g.H.Device.history c.log_end.new.host in
    let new = g.H.Device.history c.cut_at.new.host in
    then_disk old mid new (g.H.Device.sound c.log_end.new.host t)
    (same_disk old mid (read_then old (g.H.Device.history c.reaches.new.host) mid c.reaches.result (g.H.Device.sound c.args.host.now t) (c.reaches.ensures.does t) (c.log_end.ensures.same t)))
    (logs_disk mid new cut_steps c.in_ok-end.end (c.cut_at.ensures.steps t).moments)
