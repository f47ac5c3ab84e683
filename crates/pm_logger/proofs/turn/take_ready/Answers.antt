use Rattle.pm_logger.proofs.Taking.{look_then}
use Rattle.pm_logger.proofs.turn.take_ready.Goals as goal

pub returns-clause-appended : goal.returns-clause-appended
returns-clause-appended g c = look_then c.look.ensures c.take_known.ensures.appended
