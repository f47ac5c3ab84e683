use Rattle.std.proofs.Common.{sym, subst}
use Rattle.pm_logger.specs.Loggers.{inboxes}
use Rattle.pm_logger.specs.Rings.{AreLinked}
use Rattle.pm_logger.proofs.Linking.{fresh_linked}
use Rattle.pm_tests_logs.proofs.log_writers.failing_at.Goals as goal

pub rest-requires-clause-linked : goal.rest-requires-clause-linked
rest-requires-clause-linked c =
    let rings = inboxes c.in_ok-logger.logger in
    subst (λ ends. AreLinked ends (inboxes c.job.new.self)) (sym c.deref_mut.ensures.value)
    (c.job.ensures.linked c.push_to-2.new.ends.items (c.push_to-2.ensures.linked rings (c.push_to.ensures.linked rings (fresh_linked c.in_ok-logger.ensures.fresh))))
