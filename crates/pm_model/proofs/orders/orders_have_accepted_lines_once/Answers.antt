use Rattle.pm_model.proofs.OrderLaws.{order_accepted, order_rises}
use Rattle.pm_model.proofs.orders.orders_have_accepted_lines_once.Goals as goal

pub returns-clause-accepted : goal.returns-clause-accepted
returns-clause-accepted c = order_accepted

pub returns-clause-rises : goal.returns-clause-rises
returns-clause-rises c = order_rises
