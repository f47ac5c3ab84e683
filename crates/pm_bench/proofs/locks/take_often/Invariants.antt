use Rattle.pm_locks.specs.Sight.{IsSeatOf}
use Rattle.pm_bench.proofs.locks.take_often.Given as goal

abbrev pub invariant-takes : goal.invariant-takes
invariant-takes l = IsSeatOf l.locks l.seat
