use Rattle.pm_core.specs.Starts.{start_state}
use Rattle.pm_core.proofs.CrashLaw.{law_of_state, said_of_state}
use Rattle.pm_core.proofs.Starting.{stands_first}
use Rattle.pm_core.proofs.laws.a_crash_leaves_a_prefix.Goals as goal

pub returns-clause-map : goal.returns-clause-map
returns-clause-map c = λ wanted told world shape pairs can steps may k image leaves honest.
    law_of_state wanted told (start_state wanted world shape pairs can.sound) world steps (stands_first wanted told world shape pairs can) may k image leaves honest

pub returns-clause-said : goal.returns-clause-said
returns-clause-said c = λ wanted told world shape pairs can steps may k.
    said_of_state wanted told (start_state wanted world shape pairs can.sound) world steps (stands_first wanted told world shape pairs can) may k
