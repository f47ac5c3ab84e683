use Rattle.pm_logger.proofs.Emptying.{linked_merge}
use Rattle.pm_logger.proofs.logger.Logger.job.Goals as goal

pub returns-clause-linked : goal.returns-clause-linked
returns-clause-linked g c = linked_merge c.turns.ensures.appended
