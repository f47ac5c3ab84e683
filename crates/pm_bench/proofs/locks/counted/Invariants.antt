use Rattle.std.proofs.Common.{◌≡◌, length}
use Rattle.std.specs.Prelude.{All}
use Rattle.pm_locks.specs.Sight.{IsSeatOf}
use Rattle.pm_bench.proofs.locks.counted.Given as goal

abbrev pub invariant-seats : goal.invariant-seats
invariant-seats l = All (IsSeatOf l.locks) l.seats × (length l.seats ≡ length l.fn.seats)
