use Rattle.pm_engine.proofs.FrameJoined.{part_unmade, checkpoint_answered, some_lines}
use Rattle.pm_engine.proofs.engine.Engine.answer_checkpoint.Goals as goal

pub returns-in-Err-clause-runs : goal.returns-in-Err-clause-runs
returns-in-Err-clause-runs g c =
    part_unmade g.H.Device.tells (g.H.Device.history c.args.host.now) (g.H.Device.history c.checkpoint_between.new.host) c.args.first c.args.lines.now c.args.self c.checkpoint_between.new.self
    c.args.replies.now c.args.replies.now c.in-Err.fault c.in-Err.ensures.checks (some_lines c.args.lines.now _ c.requires.asks)

pub returns-in-Ok-clause-runs : goal.returns-in-Ok-clause-runs
returns-in-Ok-clause-runs g c =
    let host = c.checkpoint_between.new.host in
    checkpoint_answered g.H.Device.tells (g.H.Device.history c.args.host.now) (g.H.Device.history host) c.args.first c.args.lines.now c.args.self c.checkpoint_between.new.self
    c.args.replies.now c.push.new.self (g.H.Device.sound host) c.in-Ok.ensures.checks c.requires.asks c.push.ensures
