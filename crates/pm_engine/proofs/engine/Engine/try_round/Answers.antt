use Rattle.std.proofs.Common.{Err, refl, sym, ◌∙◌, ap, subst}
use Rattle.std.specs.Prelude.{IfErr, IsErrOf}
use Rattle.pm_types.specs.declared.fault.StoreFault.TheVariants.{Failed, Memory}
use Rattle.pm_redo.specs.Faults.{IsPlainFault}
use Rattle.pm_engine.specs.Engines.{DoesRoundLines}
use Rattle.pm_engine.proofs.FrameParts.{round_lines, round_tried, round_untried}
use Rattle.pm_engine.proofs.Results.{if_ok_holds}
use Rattle.pm_engine.proofs.engine.Engine.try_round.Goals as goal

pub run_lines-engine-requires-clause-lines : goal.run_lines-engine-requires-clause-lines
run_lines-engine-requires-clause-lines g c _ _ = round_lines c.args.lines.now c.requires.caches c.requires.lines

pub returns-in-Ok-clause-tries : goal.returns-in-Ok-clause-tries
returns-in-Ok-clause-tries g c =
    let tells = g.H.Device.tells in
    let old = g.H.Device.history c.args.host.now in
    let new = g.H.Device.history c.run_lines-engine.new.host in
    let ran = c.run_lines-engine in
    round_tried tells old new c.args.first c.args.lines.now c.args.self ran.result.0 c.args.replies.now ran.new.replies c.in-Ok.end
    (if_ok_holds ran.result.1 c.in-Ok.end (DoesRoundLines tells old new c.args.first 0 c.args.lines.now c.args.self ran.result.0 c.args.replies.now ran.new.replies) c.in-Ok.is ran.ensures.does)
    c.requires.lines c.done_in.result c.done_in.ensures

pub returns-in-Err-clause-tries : goal.returns-in-Err-clause-tries
returns-in-Err-clause-tries g c =
    let old = g.H.Device.history c.args.host.now in
    let new = g.H.Device.history c.run_lines-engine.new.host in
    let ran = c.run_lines-engine in
    let is = c.in-Err.is in
    round_untried g.H.Device.tells old new c.args.first c.args.lines.now c.args.self ran.result.0 c.args.replies.now ran.new.replies c.in-Err.fault
    (subst (λ r. IfErr r IsPlainFault) is ran.ensures.cause.plain)
    (λ e. ran.ensures.loses (subst (λ r. IsErrOf r Failed) (sym (is ∙ ap Err e)) refl))
    (λ lack e. ran.ensures.unchanged lack (subst (λ r. IsErrOf r (Memory lack)) (sym (is ∙ ap Err e)) refl))
    c.requires.is_open c.requires.end c.requires.clean
