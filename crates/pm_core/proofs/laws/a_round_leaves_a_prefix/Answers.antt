use Rattle.pm_core.proofs.Joins.{round_law, round_of_run, round_stands}
use Rattle.pm_core.proofs.laws.a_round_leaves_a_prefix.Goals as goal

pub returns-clause-map : goal.returns-clause-map
returns-clause-map c = λ wanted told world shape pairs can steps may mid mid_is now now_is logged paged can_logged can_paged j k image leaves honest.
    round_of_run wanted told world shape pairs can steps may mid mid_is now now_is logged paged can_logged can_paged j k image leaves honest

pub returns-clause-here : goal.returns-clause-here
returns-clause-here c = λ wanted told s world logged paged stands can_logged can_paged j k image leaves honest.
    round_law wanted told s world logged paged stands can_logged can_paged j k image leaves honest

pub returns-clause-after : goal.returns-clause-after
returns-clause-after c = λ wanted told s world logged paged stands can_logged can_paged. round_stands wanted told s world logged paged stands can_logged can_paged
