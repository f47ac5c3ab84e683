use Rattle.pm_model.proofs.OrderLaws.{script_tried}
use Rattle.pm_model.proofs.orders.script_order_is_an_order.Goals as goal

pub returns : goal.returns
returns c = script_tried
