use Rattle.pm_model.proofs.OrderLaws.{has_as_many, as_many_has}
use Rattle.pm_model.proofs.orders.acknowledged_by_number_or_by_count.Goals as goal

pub returns-clause-counted : goal.returns-clause-counted
returns-clause-counted c = has_as_many

pub returns-clause-named : goal.returns-clause-named
returns-clause-named c = as_many_has
