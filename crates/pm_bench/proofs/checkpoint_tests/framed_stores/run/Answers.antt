use Rattle.std.proofs.Common.{◌+◌, ◌*◌, length, subst}
use Rattle.pm_engine.specs.FrameBatches.{RunsFrameBatch}
use Rattle.pm_bench.proofs.OpenStores.{stays_open}
use Rattle.pm_bench.specs.declared.checkpoint_tests.framed_stores.TheConstants.{CONFIG}
use Rattle.pm_bench.proofs.checkpoint_tests.framed_stores.run.Goals as goal

pub batch-engine-requires-clause-is_open : goal.batch-engine-requires-clause-is_open
batch-engine-requires-clause-is_open g c _ _ = c.requires.open.is_open

pub batch-engine-requires-clause-frames : goal.batch-engine-requires-clause-frames
batch-engine-requires-clause-frames g c _ _ = c.requires.open.frames

pub batch-engine-requires-clause-end : goal.batch-engine-requires-clause-end
batch-engine-requires-clause-end g c _ _ t = (c.requires.open.ready t).ends

pub batch-engine-requires-clause-clean : goal.batch-engine-requires-clause-clean
batch-engine-requires-clause-clean g c _ _ t = (c.requires.open.ready t).clean

pub returns-in-Ok-clause-open : goal.returns-in-Ok-clause-open
returns-in-Ok-clause-open g c =
    let tells = g.H.Device.tells in
    let old = g.H.Device.history c.args.host.now in
    let ran = c.batch-engine in
    let new = g.H.Device.history ran.new.host in
    let lines = c.args.lines.now in
    let n = length lines in
    let runs = subst (λ r. RunsFrameBatch tells old new 1 lines (34 * n + 1) (n + 1) c.args.engine ran.result.0 c.in_ok-replies.replies ran.new.replies r) c.in-Ok.is ran.ensures.runs in
    stays_open tells CONFIG old.world new.world c.args.engine ran.result.0 c.requires.open runs.same (runs.is_open tt) (λ t. record { ends = runs.ends t tt; clean = runs.clean t tt })
