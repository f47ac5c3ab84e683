use Rattle.pm_model.proofs.OrderReplies.{barrier_parts}
use Rattle.pm_model.proofs.orders.barriers_part_an_order.Goals as goal

pub returns : goal.returns
returns c = barrier_parts
