use Rattle.pm_logger.proofs.Taking.{look_then}
use Rattle.pm_logger.proofs.rest.take_rest.Goals as goal

pub returns-clause-appended : goal.returns-clause-appended
returns-clause-appended g c = look_then c.look_beside.ensures.looks c.take_known.ensures.appended
