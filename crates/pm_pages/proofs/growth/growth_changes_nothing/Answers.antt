use Rattle.pm_pages.proofs.GrownPartitions.{grown, rows_stay, grows_with_meta, grows_without_meta}
use Rattle.pm_pages.proofs.growth.growth_changes_nothing.Goals as goal

pub returns-clause-well_formed : goal.returns-clause-well_formed
returns-clause-well_formed c = λ shape part was now grows. grown shape part was now grows

pub returns-clause-rows : goal.returns-clause-rows
returns-clause-rows c = λ part was now grows. rows_stay part was now grows

pub returns-clause-with_meta : goal.returns-clause-with_meta
returns-clause-with_meta c = λ shape part was now keeps is. grows_with_meta shape part was now keeps is

pub returns-clause-without_meta : goal.returns-clause-without_meta
returns-clause-without_meta c = λ was now none none'. grows_without_meta was now none none'
