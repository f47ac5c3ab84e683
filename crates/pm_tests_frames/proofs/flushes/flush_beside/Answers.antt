use Rattle.std.proofs.Common.{◌∙◌}
use Rattle.pm_types.specs.declared.flag.Flag.TheVariants as flag
use Rattle.pm_locks.specs.Answers.{out_of}
use Rattle.pm_locks.specs.Words.{put_as}
use Rattle.pm_locks.proofs.Callers.{own_put_still, own_put_numbers}
use Rattle.pm_tests_frames.proofs.flushes.flush_beside.Goals as goal

pub returns-in-Got-clause-owner : goal.returns-in-Got-clause-owner
returns-in-Got-clause-owner c =
    let v = c.args.owner.now.view in let v' = c.own_take.new.seat.view in let v'' = c.own_put.new.seat.view in
    let left = put_as flag.Dirty (out_of v' 3).word in record {
      of = c.own_put.ensures.seat;
      alone = own_put_numbers v v' v'' 3 0 c.in-Got.lease _ left _ c.in-Got.ensures.answer c.own_put.ensures.put ∙ c.requires.owner.alone;
      still = own_put_still v v' v'' 3 0 c.in-Got.lease _ left _ c.in-Got.ensures.answer c.own_put.ensures.put c.requires.owner.still;
    }
