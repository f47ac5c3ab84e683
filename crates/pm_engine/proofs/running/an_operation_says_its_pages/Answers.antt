use Rattle.pm_engine.proofs.RunningOperations.{operation_says, replay_says}
use Rattle.pm_engine.proofs.running.an_operation_says_its_pages.Goals as goal

pub returns-clause-done : goal.returns-clause-done
returns-clause-done c = λ wanted told store s world part noted frame pages runs made. operation_says store runs.is_shape part noted frame pages made runs.frames runs.files runs.tracks runs.holds.once

pub returns-clause-replayed : goal.returns-clause-replayed
returns-clause-replayed c = λ wanted told store pairs s world part noted pages runs change. replay_says store runs.is_shape part noted pages change runs.frames runs.files runs.tracks runs.holds.once pairs
