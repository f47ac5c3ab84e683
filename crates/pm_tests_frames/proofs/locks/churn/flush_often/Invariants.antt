use Rattle.pm_locks.specs.Rounds.{IsFlushers}
use Rattle.pm_tests_frames.proofs.locks.churn.flush_often.Given as goal

abbrev pub invariant-turns : goal.invariant-turns
invariant-turns l = IsFlushers l.locks l.seat
