use Rattle.pm_locks.proofs.Refusing.{steal_not}
use Rattle.pm_tests_logs.proofs.lock_clients.read_page.Goals as goal

pub returns-in-Not-clause-cause : goal.returns-in-Not-clause-cause
returns-in-Not-clause-cause c = λ _. steal_not c.args.seat.now.view c.steal.new.seat.view c.args.number c.args.f _ c.in-Not.ensures.answer
