use Rattle.pm_model.proofs.PartitionRows.{reply_by_rows, accepted_by_rows, rows_after, rows_elsewhere, same_rows}
use Rattle.pm_model.proofs.orders.a_line_depends_on_its_partition.Goals as goal

pub returns-clause-reply : goal.returns-clause-reply
returns-clause-reply c = reply_by_rows

pub returns-clause-accepted : goal.returns-clause-accepted
returns-clause-accepted c = accepted_by_rows

pub returns-clause-change : goal.returns-clause-change
returns-clause-change c = rows_after

pub returns-clause-others : goal.returns-clause-others
returns-clause-others c = rows_elsewhere

pub returns-clause-maps : goal.returns-clause-maps
returns-clause-maps c = same_rows
