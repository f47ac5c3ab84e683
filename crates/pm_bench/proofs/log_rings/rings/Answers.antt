use Rattle.pm_logger.proofs.Linking.{fresh_linked}
use Rattle.pm_bench.proofs.log_rings.rings.Goals as goal

pub push_all-requires-clause-linked : goal.push_all-requires-clause-linked
push_all-requires-clause-linked c = fresh_linked c.in_ok-logger.ensures.fresh
