use Rattle.std.proofs.Common.{◌≡◌}
use Rattle.pm_types.specs.declared.flag.Flag.TheVariants as flag
use Rattle.pm_locks.specs.Rounds.{IsWorkers}
use Rattle.pm_locks.specs.Views.{HasLeft, left_at}
use Rattle.pm_tests_logs.proofs.lock_clients.change.Given as goal

abbrev pub invariant-tries : goal.invariant-tries
invariant-tries g l = IsWorkers l.locks l.number l.seat × HasLeft l.seat.view l.number l.f l.tag flag.Dirty
    × ((left_at l.seat.view l.number l.f).bytes ≡ (left_at l.fn.seat.view l.number l.f).bytes)
