use Rattle.pm_logger.proofs.Emptying.{linked_given}
use Rattle.pm_logger.proofs.Splits.{gives_nothing_ok}
use Rattle.pm_logger.proofs.logger.Logger.give.Goals as goal

pub returns-clause-whole : goal.returns-clause-whole
returns-clause-whole g c = gives_nothing_ok c.give_to.result c.give_to.ensures.appended

pub returns-clause-linked : goal.returns-clause-linked
returns-clause-linked g c = linked_given c.give_to.ensures.appended
