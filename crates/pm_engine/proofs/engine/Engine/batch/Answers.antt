use Rattle.std.proofs.Common.{subst}
use Rattle.pm_engine.specs.FrameBatches.{RunsAllParts}
use Rattle.pm_engine.proofs.FrameJoined.{ended_runs, ended_lasts, ended_rests, unended_runs}
use Rattle.pm_engine.proofs.engine.Engine.batch.Goals as goal

pub returns-in-Err-clause-runs : goal.returns-in-Err-clause-runs
returns-in-Err-clause-runs g c =
    let ran = c.run_parts-engine in
    let tells = g.H.Device.tells in
    let old = g.H.Device.history c.args.host.now in
    let new = g.H.Device.history ran.new.host in
    unended_runs tells old new c.args.first c.args.lines.now c.args.self ran.result.0 c.args.replies.now ran.new.replies c.in-Err.fault
    (subst (λ r. RunsAllParts tells old new c.args.first c.args.lines.now c.args.self ran.result.0 c.args.replies.now ran.new.replies r) c.in-Err.is ran.ensures.runs)

pub returns-in-Ok-clause-runs : goal.returns-in-Ok-clause-runs
returns-in-Ok-clause-runs g c =
    let ran = c.run_parts-engine in
    let tells = g.H.Device.tells in
    let old = g.H.Device.history c.args.host.now in
    let mid = g.H.Device.history ran.new.host in
    ended_runs tells old mid (g.H.Device.history c.end_batch-ended.new.host) c.args.first c.args.lines.now c.args.self ran.result.0 c.end_batch-ended.new.self c.args.replies.now ran.new.replies c.end_batch-ended.result
    (g.H.Device.sound ran.new.host) (subst (λ r. RunsAllParts tells old mid c.args.first c.args.lines.now c.args.self ran.result.0 c.args.replies.now ran.new.replies r) c.in-Ok.is ran.ensures.runs)
    c.end_batch-ended.ensures.runs

pub returns-in-Ok-clause-lasts : goal.returns-in-Ok-clause-lasts
returns-in-Ok-clause-lasts g c =
    let ran = c.run_parts-engine in
    let tells = g.H.Device.tells in
    let old = g.H.Device.history c.args.host.now in
    let mid = g.H.Device.history ran.new.host in
    ended_lasts tells old mid (g.H.Device.history c.end_batch-ended.new.host) c.args.first c.args.lines.now c.args.self ran.result.0 c.end_batch-ended.new.self c.args.replies.now ran.new.replies c.end_batch-ended.result
    (g.H.Device.sound ran.new.host) (subst (λ r. RunsAllParts tells old mid c.args.first c.args.lines.now c.args.self ran.result.0 c.args.replies.now ran.new.replies r) c.in-Ok.is ran.ensures.runs)
    c.end_batch-ended.ensures.lasts

pub returns-in-Ok-clause-rests : goal.returns-in-Ok-clause-rests
returns-in-Ok-clause-rests g c =
    let ran = c.run_parts-engine in
    let tells = g.H.Device.tells in
    let old = g.H.Device.history c.args.host.now in
    let mid = g.H.Device.history ran.new.host in
    ended_rests tells old mid (g.H.Device.history c.end_batch-ended.new.host) c.args.first c.args.lines.now c.args.self ran.result.0 c.end_batch-ended.new.self c.args.replies.now ran.new.replies c.end_batch-ended.result
    (g.H.Device.sound ran.new.host) (subst (λ r. RunsAllParts tells old mid c.args.first c.args.lines.now c.args.self ran.result.0 c.args.replies.now ran.new.replies r) c.in-Ok.is ran.ensures.runs)
    c.end_batch-ended.ensures.rests
