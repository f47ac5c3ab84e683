-- What contracts see of a seat and of the locks.
use Rattle.std.specs.Prelude.{◌≡◌, ℕ, ◌<◌, List, length, map, Some}
use Rattle.atomic_table.specs.Seated.{TableId}
use Rattle.pm_region.specs.Lease.{Range}
use Rattle.pm_locks.specs.declared.view.View.{View}
use Rattle.pm_locks.specs.Views.{IsWhole, word_at, known_at}
use Rattle.pm_locks.specs.Rule.{frame_range}

-- a seat: of which table, and what it knows
pub record Sight : Type 0 where
  pub table : TableId
  pub view : View

-- the locks: their table, how many workers they have, and where each frame lies in memory
pub record LockTable : Type 0 where
  pub table : TableId
  pub workers : ℕ
  pub ranges : List Range

-- a seat of these locks
pub record IsSeatOf (locks : LockTable) (seat : Sight) : Type 0 where
  pub of : seat.table ≡ locks.table
  pub staff : seat.view.workers ≡ locks.workers
  -- it knows where each frame lies
  pub ranges : map (λ y. y.range) seat.view.leases ≡ locks.ranges

-- the locks have a frame with this number
abbrev pub IsFrameOf : LockTable → ℕ → Type 0
IsFrameOf locks f = f < length locks.ranges

-- each frame has so many bytes
abbrev pub HasPageSize : LockTable → ℕ → Type 0
HasPageSize locks size = (f : ℕ) → IsFrameOf locks f → (frame_range locks.ranges f).len ≡ size

-- the seat stands for all numbers, and knows each frame's word
pub record KnowsAll (locks : LockTable) (view : View) : Type 0 where
  pub whole : IsWhole view
  pub each : (f : ℕ) → IsFrameOf locks f → word_at view.words f ≡ Some (known_at view f)
