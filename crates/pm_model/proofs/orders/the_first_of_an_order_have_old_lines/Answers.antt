use Rattle.pm_model.proofs.OrderLaws.{first_has_old}
use Rattle.pm_model.proofs.orders.the_first_of_an_order_have_old_lines.Goals as goal

pub returns : goal.returns
returns c = first_has_old
