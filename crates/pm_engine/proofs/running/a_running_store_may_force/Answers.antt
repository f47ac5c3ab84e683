use Rattle.pm_engine.proofs.RunningForces.{store_force_goes, store_force_runs, store_force_lasts}
use Rattle.pm_engine.proofs.running.a_running_store_may_force.Goals as goal
use Rattle.std.proofs.Common.{refl}

pub returns-clause-can : goal.returns-clause-can
returns-clause-can c = λ wanted told store s world runs. store_force_goes wanted told store s world runs

pub returns-clause-runs : goal.returns-clause-runs
returns-clause-runs c = λ wanted told store s world runs. store_force_runs wanted told store s world runs

pub returns-clause-lasts : goal.returns-clause-lasts
returns-clause-lasts c = λ wanted told store s world runs. store_force_lasts wanted told store s world runs

pub returns-clause-order : goal.returns-clause-order
returns-clause-order c = λ wanted told store s world runs. refl
