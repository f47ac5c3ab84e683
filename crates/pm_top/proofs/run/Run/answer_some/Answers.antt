use Rattle.std.proofs.Common.{◌+◌, ◌*◌, length, subst}
use Rattle.std.specs.Prelude.{OnOk}
use Rattle.pm_engine.specs.FrameBatches.{LeavesAllAtRest, MakesAskedIn, RunsFrameBatch, TakesNumbersIn}
use Rattle.pm_engine.specs.Batches.{StaysOpen}
use Rattle.pm_top.proofs.AnsweredReplies.{batch_stops, said_or_not}
use Rattle.pm_top.proofs.run.Run.answer_some.Goals as goal

pub batch-engine-requires-clause-is_open : goal.batch-engine-requires-clause-is_open
batch-engine-requires-clause-is_open g c _ _ =
    c.requires.serving.is_open

pub batch-engine-requires-clause-frames : goal.batch-engine-requires-clause-frames
batch-engine-requires-clause-frames g c _ _ =
    c.requires.serving.frames

pub batch-engine-requires-clause-end : goal.batch-engine-requires-clause-end
batch-engine-requires-clause-end g c _ _ t =
    (c.requires.ready t).ends

pub batch-engine-requires-clause-clean : goal.batch-engine-requires-clause-clean
batch-engine-requires-clause-clean g c _ _ t =
    (c.requires.ready t).clean

pub returns-in-Err-clause-answers : goal.returns-in-Err-clause-answers
returns-in-Err-clause-answers g c =
    let tells = g.H.Device.tells in
    let old = g.H.Device.history c.args.host.now in
    let ran = c.batch-engine in
    let mid = g.H.Device.history ran.new.host in
    let run = c.args.self in
    let lines = c.args.lines.now in
    let n = length lines in
    batch_stops run c.in-Err.fault (subst (λ r. RunsFrameBatch tells old mid (run.lines + 1) lines (34 * n + 1) (n + 1) run.engine ran.result.0 c.args.replies.now ran.new.replies r) c.in-Err.is ran.ensures.runs)
    (g.H.Device.sound ran.new.host) c.requires.some c.requires.few

pub returns-in-Ok-clause-answers : goal.returns-in-Ok-clause-answers
returns-in-Ok-clause-answers g c =
    let tells = g.H.Device.tells in
    let old = g.H.Device.history c.args.host.now in
    let ran = c.batch-engine in
    let mid = g.H.Device.history ran.new.host in
    let run = c.args.self in
    let lines = c.args.lines.now in
    let n = length lines in
    let say = c.say-said in
    let new = g.H.Device.history say.new.host in
    said_or_not run (subst (λ r. RunsFrameBatch tells old mid (run.lines + 1) lines (34 * n + 1) (n + 1) run.engine ran.result.0 c.args.replies.now ran.new.replies r) c.in-Ok.is ran.ensures.runs)
    (g.H.Device.sound ran.new.host) c.requires.some c.requires.few c.requires.none
    (subst (λ r. LeavesAllAtRest tells old mid (34 * n + 1) (n + 1) run.engine ran.result.0 r) c.in-Ok.is ran.ensures.rests)
    (subst (λ r. StaysOpen r → TakesNumbersIn run.engine ran.result.0 (34 * n + 1) (n + 1)) c.in-Ok.is ran.ensures.numbers tt)
    say.new.self say.ensures.engine new (subst (λ r. OnOk r (MakesAskedIn run.engine ran.result.0 lines (n + 1))) c.in-Ok.is ran.ensures.asked)
    say.result say.ensures.counted say.ensures.uncounted say.ensures.says say.ensures.unsaid say.ensures.cause.plain
