use Rattle.std.proofs.Common.{◌≡◌, ℕ, sym, ap, false, ◌∙◌}
use Rattle.pm_engine.specs.FrameBatches.{is_due_idle, is_due_past}
use Rattle.pm_engine.proofs.FrameSettled.{settled_seen, settled_then}
use Rattle.pm_engine.proofs.engine.Engine.settle.Goals as goal

pub returns-then-not-is_due-clause-settles : goal.returns-then-not-is_due-clause-settles
returns-then-not-is_due-clause-settles g c =
    let idle : is_due_idle c.args.self.now c.args.config.now ≡ false = sym (ap (λ (most : ℕ). is_due_past most c.args.self.now c.args.config.now) c.idle_bytes.ensures) ∙ sym c.is_due.ensures.due ∙ c.if-not-is_due.true in
    settled_seen g.H.Device.tells (g.H.Device.history c.args.host.now) c.args.self.now c.is_due.new.self c.requires.is_open (g.H.Device.sound c.args.host.now) c.requires.end c.requires.clean c.is_due.ensures.looks
    c.args.config.now idle

pub returns-clause-settles : goal.returns-clause-settles
returns-clause-settles g c =
    settled_then g.H.Device.tells (g.H.Device.history c.args.host.now) c.args.self.now c.is_due.new.self c.requires.is_open (g.H.Device.sound c.args.host.now) c.requires.end c.requires.clean c.is_due.ensures.looks
    (g.H.Device.history c.checkpoint_between.new.host) c.checkpoint_between.new.self c.checkpoint_between.result c.checkpoint_between.ensures.checks c.args.config.now
