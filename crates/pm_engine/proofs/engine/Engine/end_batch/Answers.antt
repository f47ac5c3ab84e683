use Rattle.std.proofs.Common.{sym, ◌∙◌, ap}
use Rattle.pm_engine.specs.Engines.{FrameRunning}
use Rattle.pm_engine.proofs.FrameSettled.{force_failed, looked_runs, looked_lasts, looked_at_rest, looked_due, then_runs, then_lasts, then_at_rest}
use Rattle.pm_engine.proofs.engine.Engine.end_batch.Goals as goal

pub returns-in-Err-clause-runs : goal.returns-in-Err-clause-runs
returns-in-Err-clause-runs g c first list =
    force_failed g.H.Device.tells (g.H.Device.history c.args.host.now) (g.H.Device.history c.force.new.host) c.args.self.now c.force.new.self c.in-Err.ensures.engine.closed
    c.force.ensures.disk c.force.ensures.crash first list

pub returns-then-not-is_due-clause-runs : goal.returns-then-not-is_due-clause-runs
returns-then-not-is_due-clause-runs g c first list =
    let host = c.force.new.host in
    let e = c.in-Ok.ensures in
    looked_runs g.H.Device.tells (g.H.Device.history c.args.host.now) (g.H.Device.history host) c.args.self.now c.force.new.self c.is_due.new.self e.engine.same c.requires.is_open (g.H.Device.sound host)
    (λ t. (e.reads t).ends) (λ t. (e.reads t).clean (c.requires.clean t)) e.lasts e.crash e.disk c.is_due.ensures.looks
    (λ t. (e.reads t).pages) first 1 1 list

pub returns-then-not-is_due-clause-lasts : goal.returns-then-not-is_due-clause-lasts
returns-then-not-is_due-clause-lasts g c =
    let host = c.force.new.host in
    let e = c.in-Ok.ensures in
    looked_lasts g.H.Device.tells (g.H.Device.history c.args.host.now) (g.H.Device.history host) c.args.self.now c.force.new.self c.is_due.new.self e.engine.same c.requires.is_open (g.H.Device.sound host)
    (λ t. (e.reads t).ends) (λ t. (e.reads t).clean (c.requires.clean t)) e.lasts e.crash e.disk c.is_due.ensures.looks

pub returns-then-not-is_due-clause-rests : goal.returns-then-not-is_due-clause-rests
returns-then-not-is_due-clause-rests g c =
    let host = c.force.new.host in
    let e = c.in-Ok.ensures in
    looked_at_rest g.H.Device.tells (g.H.Device.history c.args.host.now) (g.H.Device.history host) c.args.self.now c.force.new.self c.is_due.new.self e.engine.same c.requires.is_open (g.H.Device.sound host)
    (λ t. (e.reads t).ends) (λ t. (e.reads t).clean (c.requires.clean t)) e.lasts e.crash e.disk c.is_due.ensures.looks e.rests

pub returns-then-not-is_due-clause-not_due : goal.returns-then-not-is_due-clause-not_due
returns-then-not-is_due-clause-not_due g c =
    let host = c.force.new.host in
    let e = c.in-Ok.ensures in
    looked_due g.H.Device.tells (g.H.Device.history c.args.host.now) (g.H.Device.history host) c.args.self.now c.force.new.self c.is_due.new.self e.engine.same c.requires.is_open (g.H.Device.sound host)
    (λ t. (e.reads t).ends) (λ t. (e.reads t).clean (c.requires.clean t)) e.lasts e.crash e.disk c.is_due.ensures.looks c.args.most c.args.config.now
    ∙ sym c.is_due.ensures.due ∙ c.if-not-is_due.true

pub returns-else-not-is_due-clause-runs : goal.returns-else-not-is_due-clause-runs
returns-else-not-is_due-clause-runs g c first list =
    let host = c.force.new.host in
    let e = c.in-Ok.ensures in
    then_runs g.H.Device.tells (g.H.Device.history c.args.host.now) (g.H.Device.history host) c.args.self.now c.force.new.self c.is_due.new.self e.engine.same c.requires.is_open (g.H.Device.sound host)
    (λ t. (e.reads t).ends) (λ t. (e.reads t).clean (c.requires.clean t)) e.lasts e.crash e.disk c.is_due.ensures.looks (g.H.Device.history c.checkpoint_between.new.host) c.checkpoint_between.new.self
    c.checkpoint_between.result c.checkpoint_between.ensures.checks (λ t. (e.reads t).pages) first list

pub returns-else-not-is_due-clause-lasts : goal.returns-else-not-is_due-clause-lasts
returns-else-not-is_due-clause-lasts g c =
    let host = c.force.new.host in
    let e = c.in-Ok.ensures in
    then_lasts g.H.Device.tells (g.H.Device.history c.args.host.now) (g.H.Device.history host) c.args.self.now c.force.new.self c.is_due.new.self e.engine.same c.requires.is_open (g.H.Device.sound host)
    (λ t. (e.reads t).ends) (λ t. (e.reads t).clean (c.requires.clean t)) e.lasts e.crash e.disk c.is_due.ensures.looks (g.H.Device.history c.checkpoint_between.new.host) c.checkpoint_between.new.self
    c.checkpoint_between.result c.checkpoint_between.ensures.checks

pub returns-else-not-is_due-clause-rests : goal.returns-else-not-is_due-clause-rests
returns-else-not-is_due-clause-rests g c =
    let host = c.force.new.host in
    let e = c.in-Ok.ensures in
    then_at_rest g.H.Device.tells (g.H.Device.history c.args.host.now) (g.H.Device.history host) c.args.self.now c.force.new.self c.is_due.new.self e.engine.same c.requires.is_open (g.H.Device.sound host)
    (λ t. (e.reads t).ends) (λ t. (e.reads t).clean (c.requires.clean t)) e.lasts e.crash e.disk c.is_due.ensures.looks (g.H.Device.history c.checkpoint_between.new.host) c.checkpoint_between.new.self
    c.checkpoint_between.result c.checkpoint_between.ensures.checks e.rests

pub returns-in-Err-clause-order : goal.returns-in-Err-clause-order
returns-in-Err-clause-order g c = ap (λ (e : FrameRunning). e.order) c.in-Err.ensures.engine.closed

pub returns-then-not-is_due-clause-order : goal.returns-then-not-is_due-clause-order
returns-then-not-is_due-clause-order g c =
    ap (λ (e : FrameRunning). e.order) c.is_due.ensures.looks.engine ∙ ap (λ (e : FrameRunning). e.order) c.in-Ok.ensures.engine.same

pub returns-else-not-is_due-clause-order : goal.returns-else-not-is_due-clause-order
returns-else-not-is_due-clause-order g c =
    c.checkpoint_between.ensures.checks.order ∙ ap (λ (e : FrameRunning). e.order) c.is_due.ensures.looks.engine ∙ ap (λ (e : FrameRunning). e.order) c.in-Ok.ensures.engine.same

pub returns-else-not-is_due-clause-failed : goal.returns-else-not-is_due-clause-failed
returns-else-not-is_due-clause-failed g c = c.checkpoint_between.ensures.checks.plain
