-- Which seats may flush.
use Rattle.std.specs.Prelude.{◌≡◌}
use Rattle.pm_locks.specs.Sight.{Sight, LockTable, IsSeatOf, KnowsAll}
use Rattle.pm_locks.specs.Views.{Has, IsStill}
use Rattle.pm_locks.specs.Words.{FLUSHER}

-- A seat of these locks that has the flusher's number, the flusher's own or the one of all numbers, with nothing out.
pub record MayFlush (locks : LockTable) (seat : Sight) : Type 0 where
  pub of : IsSeatOf locks seat
  pub has : Has seat.view FLUSHER
  pub still : IsStill seat.view

-- It may flush still, has the numbers that it had, and knows all frames if it did.
pub record StaysFlusher (locks : LockTable) (old new : Sight) : Type 0 where
  pub may : MayFlush locks new
  pub numbers : new.view.numbers ≡ old.view.numbers
  pub knows : KnowsAll locks old.view → KnowsAll locks new.view
