use Rattle.std.proofs.Common.{sym, subst, ◌∙◌}
use Rattle.pm_records.specs.LogSteps.{DoesSteps}
use Rattle.pm_segments.proofs.Removed.{after_look, drops_it}
use Rattle.pm_segments.proofs.dropping.drop_one.Goals as goal

pub returns-then-branch-clause-steps : goal.returns-then-branch-clause-steps
returns-then-branch-clause-steps g c t end =
    let old = g.H.Device.history c.args.host.now in
    let mid = g.H.Device.history c.is_there.new.dev in
    let new = g.H.Device.history c.drop_forced.new.host in
    let seg = c.args.seg in
    let there = sym (c.in_ok-is_there.ensures.found t) ∙ c.if-branch.true in
    subst (λ steps. DoesSteps old new c.drop_forced.result steps end) (sym (drops_it seg old.world there))
    (after_look old mid new c.is_there.result c.drop_forced.result _ end (g.H.Device.sound c.args.host.now t) (c.is_there.ensures.unchanged t)
    (c.in_ok-is_there.ensures.unchanged t).ok (c.drop_forced.ensures.steps t end))
