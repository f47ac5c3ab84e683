use Rattle.std.proofs.Common.{◌≡◌, ℕ, ◌<◌, ◌≤◌}
use Rattle.std.specs.Prelude.{if◌then◌else◌}
use Rattle.pm_types.specs.declared.flag.Flag.TheVariants as flag
use Rattle.pm_locks.specs.Words.{put_as}
use Rattle.pm_locks.specs.Steps.{is_done}
use Rattle.pm_locks.specs.Sight.{IsSeatOf, KnowsAll}
use Rattle.pm_locks.specs.Views.{IsStill, known_at}
use Rattle.pm_tests_logs.proofs.lock_clients.clean_all.Given as goal

abbrev pub invariant-frames : goal.invariant-frames
invariant-frames l = IsSeatOf l.locks l.seat × KnowsAll l.locks l.seat.view × IsStill l.seat.view
    × ((g : ℕ) → g < l.f → known_at l.seat.view g ≡ (if is_done (known_at l.fn.seat.view g).flag
    then put_as flag.Clean (known_at l.fn.seat.view g) else known_at l.fn.seat.view g))
    × ((g : ℕ) → l.f ≤ g → known_at l.seat.view g ≡ known_at l.fn.seat.view g)
