use Rattle.std.proofs.Common.{◌≡◌, subst}
use Rattle.std.specs.Prelude.{OnOk}
use Rattle.pm_disk.specs.Worlds.{World}
use Rattle.pm_disk.proofs.Chain.{at_last}
use Rattle.pm_records.specs.LogSteps.{cut_steps, world_after}
use Rattle.pm_redo.specs.Rebuilding.{IsSame}
use Rattle.pm_redo.proofs.LowestKept.{cut_has}
use Rattle.pm_redo.proofs.RestoringSteps.{read_and_cut}
use Rattle.pm_redo.proofs.cutting.cut_at.Goals as goal

pub returns-clause-there : goal.returns-clause-there
returns-clause-there g c t =
    let old = g.H.Device.history c.args.host.now in
    let mid = g.H.Device.history c.lowest_kept.new.host in
    let new = g.H.Device.history c.cut_tail.new.dev in
    let same = at_last old mid (IsSame old.world) (g.H.Device.sound c.lowest_kept.new.host t) (c.lowest_kept.ensures.same t) in
    let done = subst (λ (w : World). OnOk c.cut_tail.result (new.world ≡ world_after cut_steps c.args.end w)) same (c.cut_tail.ensures.steps t).all in
    cut_has c.cut_tail.result c.args.first c.in_ok-lowest.lowest c.args.segment_bytes c.args.end old.world new.world c.requires.kept (c.in_ok-lowest.ensures.lowest t) c.cut_tail.ensures.log (c.cut_tail.ensures.ends t) done

pub returns-clause-steps : goal.returns-clause-steps
returns-clause-steps g c t =
    let old = g.H.Device.history c.args.host.now in
    let mid = g.H.Device.history c.lowest_kept.new.host in
    let new = g.H.Device.history c.cut_tail.new.dev in
    let same = at_last old mid (IsSame old.world) (g.H.Device.sound c.lowest_kept.new.host t) (c.lowest_kept.ensures.same t) in
    let steps = c.cut_tail.ensures.steps t in
    record {
      all = subst (λ (w : World). OnOk c.cut_tail.result (new.world ≡ world_after cut_steps c.args.end w)) same steps.all;
      moments = read_and_cut old mid new c.cut_tail.result c.args.end same (c.lowest_kept.ensures.same t) steps;
    }
