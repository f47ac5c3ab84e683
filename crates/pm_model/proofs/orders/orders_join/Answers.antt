use Rattle.pm_model.proofs.OrderJoins.{joined_tried}
use Rattle.pm_model.proofs.orders.orders_join.Goals as goal

pub returns : goal.returns
returns c = joined_tried
