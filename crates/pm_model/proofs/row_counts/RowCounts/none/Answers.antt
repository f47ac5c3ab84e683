use Rattle.pm_model.proofs.CountedRows.{none_counted}
use Rattle.pm_model.proofs.row_counts.RowCounts.none.Goals as goal

pub returns-clause-none : goal.returns-clause-none
returns-clause-none c = none_counted 64
