use Rattle.pm_model.proofs.OrderReplies.{replies_first, reply_to_own}
use Rattle.pm_model.proofs.orders.replies_are_the_scripts.Goals as goal

pub returns-clause-by_order : goal.returns-clause-by_order
returns-clause-by_order c = replies_first

pub returns-clause-by_worker : goal.returns-clause-by_worker
returns-clause-by_worker c = reply_to_own
