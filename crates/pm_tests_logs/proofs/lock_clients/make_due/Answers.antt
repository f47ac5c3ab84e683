use Rattle.pm_types.specs.declared.flag.Flag.TheVariants as flag
use Rattle.pm_locks.proofs.Callers.{due_put}
use Rattle.pm_locks.proofs.Refusing.{flush_moved, flush_busy}
use Rattle.pm_tests_logs.proofs.lock_clients.make_due.Goals as goal

pub returns-in-Got-clause-due : goal.returns-in-Got-clause-due
returns-in-Got-clause-due c = λ _. (c.in-Got.lease.bytes, due_put c.args.seat.now.view c.flush_take.new.seat.view c.flush_put.new.seat.view c.args.f c.args.tag flag.Dirty c.in-Got.lease c.in-Got.ensures.answer c.flush_put.ensures.put)

pub returns-in-Moved-clause-cause : goal.returns-in-Moved-clause-cause
returns-in-Moved-clause-cause c = λ _. flush_moved c.args.seat.now.view c.flush_take.new.seat.view c.args.f c.args.tag flag.Dirty c.in-Moved.ensures.answer

pub returns-in-Busy-clause-cause : goal.returns-in-Busy-clause-cause
returns-in-Busy-clause-cause c = λ _. flush_busy c.args.seat.now.view c.flush_take.new.seat.view c.args.f c.args.tag flag.Dirty _ c.in-Busy.ensures.answer
