use Rattle.std.proofs.Common.{refl, subst}
use Rattle.pm_locks.specs.Sight.{LockTable}
use Rattle.pm_bench.specs.OneWorker.{IsBetween}
use Rattle.pm_bench.proofs.OneRound.{bound_between, after_round}
use Rattle.pm_bench.proofs.checkpoint_tests.one_worker.round.Goals as goal

pub new-pages-requires-clause-rest : goal.new-pages-requires-clause-rest
new-pages-requires-clause-rest g c = (c.requires.between.rests.each 0 c.args.stripe refl).rests

pub returns-clause-between : goal.returns-clause-between
returns-clause-between g c =
    let b = c.new-pages.result in
    let x = c.new-pages.ensures in
    let was = bound_between g.H.Device.tells g.H.Device.history g.H.Device.state c.args.locks.now c.args.seat c.args.stripe c.args.host b x.reader x.locks x.seat x.stripe c.requires.between in
    subst (λ (l : LockTable). IsBetween g.H.Device.tells (g.H.Device.history c.end.result.2) (g.H.Device.state c.end.result.2) l c.end.result.1 c.end.result.0) x.locks
    (after_round g.H.Device.tells g.H.Device.history g.H.Device.state b c.ready-ready.new.self was c.ready-ready.ensures.makes
    c.end.result.0 c.end.result.1 c.end.result.2 c.end.ensures.ends c.end.ensures.rest c.end.ensures.clean c.end.ensures.reader)
