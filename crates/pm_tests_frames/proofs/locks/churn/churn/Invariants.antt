use Rattle.pm_locks.specs.Rounds.{IsWorkers}
use Rattle.pm_tests_frames.proofs.locks.churn.churn.Given as goal

abbrev pub invariant-turns : goal.invariant-turns
invariant-turns l = IsWorkers l.locks l.number l.seat
