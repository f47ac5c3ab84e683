use Rattle.pm_model.proofs.AppliedOrders.{order_applies}
use Rattle.pm_model.proofs.orders.orders_can_be_applied.Goals as goal

pub returns : goal.returns
returns c = order_applies
