use Rattle.std.proofs.Common.{◌∙◌}
use Rattle.pm_locks.specs.Answers.{out_of}
use Rattle.pm_locks.specs.Words.{put_as}
use Rattle.pm_types.specs.declared.flag.Flag.TheVariants as flag
use Rattle.pm_locks.proofs.Callers.{dirty_not_gone, own_put_still, own_put_numbers}
use Rattle.pm_tests_logs.proofs.lock_clients.try_change.Goals as goal

pub unreachable-requires : goal.unreachable-requires
unreachable-requires c = dirty_not_gone c.args.seat.now.view c.own_take.new.seat.view c.args.number c.args.f c.args.tag c.requires.worker.alone c.requires.left c.in-Gone.ensures.answer

pub returns-in-Got-clause-worker : goal.returns-in-Got-clause-worker
returns-in-Got-clause-worker c =
    let v = c.args.seat.now.view in let v' = c.own_take.new.seat.view in let v'' = c.own_put.new.seat.view in
    let left = put_as flag.Dirty (out_of v' c.args.f).word in record {
      of = c.own_put.ensures.seat;
      alone = own_put_numbers v v' v'' c.args.f c.args.tag c.in-Got.lease _ left _ c.in-Got.ensures.answer c.own_put.ensures.put ∙ c.requires.worker.alone;
      still = own_put_still v v' v'' c.args.f c.args.tag c.in-Got.lease _ left _ c.in-Got.ensures.answer c.own_put.ensures.put c.requires.worker.still;
    }
