use Rattle.std.proofs.Common.{refl}
use Rattle.pm_bench.specs.OneWorker.{IsBetween}
use Rattle.pm_bench.proofs.OneRound.{ok_is}
use Rattle.pm_bench.proofs.checkpoint_tests.one_worker.round_and_checkpoint.Goals as goal

pub new-requires-clause-rest : goal.new-requires-clause-rest
new-requires-clause-rest g c =
    let P : Type 0 = IsBetween g.H.Device.tells (g.H.Device.history c.checkpoint-stripe.new.host) (g.H.Device.state c.checkpoint-stripe.new.host) c.args.locks.now c.checkpoint-stripe.new.seat c.checkpoint-stripe.result.0 in
    let x = ok_is P c.checkpoint-stripe.result.1 c.in_ok-made.field-0 c.in_ok-made.was c.checkpoint-stripe.ensures.between in
    (x.rests.each 0 c.checkpoint-stripe.result.0 refl).rests
