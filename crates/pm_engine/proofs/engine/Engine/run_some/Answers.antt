use Rattle.std.proofs.Common.{◌≡◌, ◌∙◌, Ok, Err, ap, subst, arith}
use Rattle.pm_engine.specs.FrameBatches.{TriesLines}
use Rattle.pm_engine.proofs.FrameJoined.{part_of_tries, part_after_none}
use Rattle.pm_engine.proofs.engine.Engine.run_some.Goals as goal

pub returns-in-Err-clause-runs : goal.returns-in-Err-clause-runs
returns-in-Err-clause-runs g c =
    let tried = c.try_lines-engine in
    let tells = g.H.Device.tells in
    let old = g.H.Device.history c.args.host.now in
    let new = g.H.Device.history tried.new.host in
    part_of_tries tells old new c.args.first c.args.lines.now c.args.self tried.result.0 c.args.replies.now tried.new.replies (Err c.in-Err.fault)
    (subst (λ r. TriesLines tells old new c.args.first c.args.lines.now c.args.self tried.result.0 c.args.replies.now tried.new.replies r) c.in-Err.is tried.ensures.tries) tt

pub returns-then-done-gt0-clause-runs : goal.returns-then-done-gt0-clause-runs
returns-then-done-gt0-clause-runs g c =
    let tried = c.try_lines-engine in
    let tells = g.H.Device.tells in
    let old = g.H.Device.history c.args.host.now in
    let new = g.H.Device.history tried.new.host in
    part_of_tries tells old new c.args.first c.args.lines.now c.args.self tried.result.0 c.args.replies.now tried.new.replies (Ok c.in-Ok.done)
    (subst (λ r. TriesLines tells old new c.args.first c.args.lines.now c.args.self tried.result.0 c.args.replies.now tried.new.replies r) c.in-Ok.is tried.ensures.tries)
    (omega (arith, c.if-done-gt0.true))

pub returns-else-done-gt0-clause-runs : goal.returns-else-done-gt0-clause-runs
returns-else-done-gt0-clause-runs g c =
    let tried = c.try_lines-engine in
    let tells = g.H.Device.tells in
    let old = g.H.Device.history c.args.host.now in
    let mid = g.H.Device.history tried.new.host in
    let ran = c.run_after_checkpoint in
    let none : c.in-Ok.done ≡ 0 = omega (arith, c.if-done-gt0.false) in
    part_after_none tells old mid (g.H.Device.history ran.new.host) c.args.first c.args.lines.now c.args.self tried.result.0 ran.result.0 c.args.replies.now tried.new.replies ran.new.replies
    (g.H.Device.sound tried.new.host)
    (subst (λ r. TriesLines tells old mid c.args.first c.args.lines.now c.args.self tried.result.0 c.args.replies.now tried.new.replies r) (c.in-Ok.is ∙ ap Ok none) tried.ensures.tries)
    ran.result.1 ran.ensures.runs
