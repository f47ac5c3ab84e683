use Rattle.pm_model.proofs.OrderLaws.{order_of_batch}
use Rattle.pm_model.proofs.orders.a_batch_needs_prefixes_alone.Goals as goal

pub returns : goal.returns
returns c = order_of_batch
