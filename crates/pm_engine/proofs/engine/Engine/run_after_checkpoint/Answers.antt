use Rattle.pm_engine.proofs.FrameJoined.{part_unmade, part_after_checkpoint}
use Rattle.pm_engine.proofs.engine.Engine.run_after_checkpoint.Goals as goal

pub try_lines-engine-requires-clause-is_open : goal.try_lines-engine-requires-clause-is_open
try_lines-engine-requires-clause-is_open g c _ _ = (c.in-Ok.ensures.checks.runs c.args.first c.args.replies.now).is_open tt

pub try_lines-engine-requires-clause-end : goal.try_lines-engine-requires-clause-end
try_lines-engine-requires-clause-end g c _ _ t = (c.in-Ok.ensures.checks.runs c.args.first c.args.replies.now).ends t tt

pub try_lines-engine-requires-clause-clean : goal.try_lines-engine-requires-clause-clean
try_lines-engine-requires-clause-clean g c _ _ t = (c.in-Ok.ensures.checks.runs c.args.first c.args.replies.now).clean t tt

pub returns-in-Err-clause-runs : goal.returns-in-Err-clause-runs
returns-in-Err-clause-runs g c =
    part_unmade g.H.Device.tells (g.H.Device.history c.args.host.now) (g.H.Device.history c.checkpoint_between.new.host) c.args.first c.args.lines.now c.args.self c.checkpoint_between.new.self
    c.args.replies.now c.args.replies.now c.in-Err.fault c.in-Err.ensures.checks c.requires.some

pub returns-in-Ok-clause-runs : goal.returns-in-Ok-clause-runs
returns-in-Ok-clause-runs g c =
    let mid = c.checkpoint_between.new.host in
    let tried = c.try_lines-engine in
    part_after_checkpoint g.H.Device.tells (g.H.Device.history c.args.host.now) (g.H.Device.history mid) (g.H.Device.history tried.new.host) c.args.first c.args.lines.now c.args.self c.checkpoint_between.new.self
    tried.result.0 c.args.replies.now tried.new.replies (g.H.Device.sound mid) c.in-Ok.ensures.checks c.requires.some tried.result.1 c.some_done.result tried.ensures.tries c.some_done.ensures
