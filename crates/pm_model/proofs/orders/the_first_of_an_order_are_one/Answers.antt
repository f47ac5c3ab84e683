use Rattle.pm_model.proofs.OrderLaws.{first_order, part_before}
use Rattle.pm_model.proofs.orders.the_first_of_an_order_are_one.Goals as goal

pub returns-clause-order : goal.returns-clause-order
returns-clause-order c = first_order

pub returns-clause-rows : goal.returns-clause-rows
returns-clause-rows c = λ shape from lines pairs order count part is. part_before shape from lines pairs order is count part
