use Rattle.pm_core.proofs.CrashLaw.{run_stands}
use Rattle.pm_core.proofs.Starting.{stands_first}
use Rattle.pm_core.proofs.laws.a_disk_stands_for_its_state.Goals as goal

pub returns-clause-first : goal.returns-clause-first
returns-clause-first c = λ wanted told world shape pairs can. stands_first wanted told world shape pairs can

pub returns-clause-later : goal.returns-clause-later
returns-clause-later c = λ wanted told s world steps stands can. run_stands wanted told steps s world stands can
