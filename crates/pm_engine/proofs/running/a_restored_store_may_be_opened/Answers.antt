use Rattle.pm_engine.proofs.OpenedStores.{restored_store, opened_goes, opened_runs, file_begins}
use Rattle.pm_engine.proofs.running.a_restored_store_may_be_opened.Goals as goal

pub returns-clause-restored : goal.returns-clause-restored
returns-clause-restored c = λ wanted told checkpoint s t world log is stands sound limits end early segments quiet. restored_store wanted told checkpoint s t world log is stands sound limits end early segments quiet

pub returns-clause-can : goal.returns-clause-can
returns-clause-can c = λ wanted told shape log mark s world restored segments. opened_goes wanted told shape log mark s world restored segments

pub returns-clause-runs : goal.returns-clause-runs
returns-clause-runs c = λ wanted told shape log mark s world restored segments. opened_runs wanted told shape log mark s world restored segments

pub returns-clause-files : goal.returns-clause-files
returns-clause-files c = λ size files. file_begins size files
