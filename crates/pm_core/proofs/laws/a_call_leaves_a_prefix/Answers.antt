use Rattle.pm_core.proofs.CrashLaw.{law_of_call}
use Rattle.pm_core.proofs.laws.a_call_leaves_a_prefix.Goals as goal

pub returns : goal.returns
returns c = record { map = λ wanted told s world steps stands can now some image leaves honest. law_of_call wanted told s world steps stands can now some image leaves honest }
