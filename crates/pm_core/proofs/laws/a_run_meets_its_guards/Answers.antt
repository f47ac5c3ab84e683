use Rattle.pm_core.proofs.FirstRun.{begins, run_can, run_ends}
use Rattle.pm_core.proofs.laws.a_run_meets_its_guards.Goals as goal

pub returns-clause-begins : goal.returns-clause-begins
returns-clause-begins c = λ shape shaped. begins shape shaped

pub returns-clause-run : goal.returns-clause-run
returns-clause-run c = λ shape shaped can. run_can shape shaped can.sound

pub returns-clause-ends : goal.returns-clause-ends
returns-clause-ends c = λ shape shaped can. run_ends shape shaped can.sound
