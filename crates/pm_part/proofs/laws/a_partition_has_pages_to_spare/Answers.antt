use Rattle.pm_part.proofs.SpareLaw.{rows_few, has_spare_pages}
use Rattle.pm_part.proofs.laws.a_partition_has_pages_to_spare.Goals as goal

pub returns-clause-few : goal.returns-clause-few
returns-clause-few c = λ shape p is size some. rows_few shape p is.page_size is.max_rows size is.well_formed some

pub returns-clause-spare : goal.returns-clause-spare
returns-clause-spare c = λ shape p is size some more le. has_spare_pages shape p is.page_size is.max_rows size is.well_formed some more le is.rows
