use Rattle.std.proofs.Common.{◌∙◌, refl}
use Rattle.pm_types.specs.declared.flag.Flag.TheVariants as flag
use Rattle.pm_locks.specs.Views.{worker_alone}
use Rattle.pm_locks.proofs.Callers.{has_alone, left_same}
use Rattle.pm_tests_logs.proofs.lock_clients.next_round.Goals as goal

pub returns-clause-left : goal.returns-clause-left
returns-clause-left c = λ was seat at at'.
    let n = c.args.number in let f = c.args.f in
    left_same was.view seat.view n f c.args.tag flag.Dirty
    ((c.spread.ensures.parts.workers n seat at').0.entries n f (has_alone (worker_alone n) n refl) ∙ c.gather-seat.ensures.gathered.entries n was at f)
    (c.requires.left was at)
