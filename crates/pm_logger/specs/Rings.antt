-- The rings of all workers, and both their ends.
use Rattle.std.specs.Prelude.{◌≡◌, ◌<◌, ◌≤◌, ◌⊎◌, ℕ, List, [], length, take, set, Some, ◌++◌, Bool, IsTrue}
use Rattle.std.specs.List.{slice_get}
use Rattle.pm_types.specs.declared.limits.TheConstants.{RING_SLOTS}
use Rattle.pm_logger.specs.Blocks.{joined}
use Rattle.pm_logger.specs.Inboxes.{kept, taken, waiting, seen, IsEndOf, IsHalted, IsDrained}
use Rattle.pm_logger.specs.Inboxes.{AppendsGiven}
use Rattle.pm_logger.specs.LogEnds.{pushed, free_slots, SameEnd}
use Rattle.pm_records.specs.Operations.{Operation, AreOperations, operations_bytes, BeginsWithNone, IsBeginning}
use Rattle.pm_logger.specs.Writers.{Writer}
use Rattle.pm_logger.specs.declared.inbox.Inbox.{Inbox}
use Rattle.pm_logger.specs.declared.log_end.LogEnd.{LogEnd}

-- The two are the ends of one new ring, through which nothing went.
pub record IsFresh (end : LogEnd) (inbox : Inbox) : Type 0 where
  pub pair : IsEndOf end inbox
  pub none_pushed : pushed end ≡ []
  pub all_free : free_slots end ≡ RING_SLOTS
  pub none_taken : taken inbox ≡ []
  pub none_waiting : waiting inbox ≡ []
  pub none_kept : kept inbox ≡ []

-- There are as many ends as rings, and each two of them at one place are these.
pub record EachPair (P : LogEnd → Inbox → Type 0) (ends : List LogEnd) (inboxes : List Inbox) : Type 0 where
  pub many : length ends ≡ length inboxes
  pub each : (worker : ℕ) (end : LogEnd) (inbox : Inbox) → slice_get ends worker ≡ Some end
      → slice_get inboxes worker ≡ Some inbox → P end inbox

-- the ends are those of the rings, each at its worker's place
abbrev pub AreLinked : List LogEnd → List Inbox → Type 0
AreLinked ends inboxes = EachPair IsEndOf ends inboxes

-- whichever rings the ends are linked to, they still are
abbrev pub StayLinked : List LogEnd → List LogEnd → Type 0
StayLinked old new = (inboxes : List Inbox) → AreLinked old inboxes → AreLinked new inboxes

-- The same ends of the same rings, to which nothing was pushed.
pub record KeepsEnds (old new : List LogEnd) : Type 0 where
  pub many : length new ≡ length old
  pub each : (worker : ℕ) (was end : LogEnd) → slice_get old worker ≡ Some was
      → slice_get new worker ≡ Some end
      → SameEnd was end × (pushed end ≡ pushed was)

-- all that was pushed was seen; it was taken, and no whole operation is left, or none can be appended
abbrev pub IsEmptied : ℕ → LogEnd → Inbox → Type 0
IsEmptied noted end inbox = (seen inbox ≡ pushed end) × IsDrained inbox noted

-- the rings of so many workers are emptied
abbrev pub AreEmptied : ℕ → ℕ → List LogEnd → List Inbox → Type 0
AreEmptied noted count ends inboxes =
    (worker : ℕ) (end : LogEnd) (inbox : Inbox) → worker < count → slice_get ends worker ≡ Some end
    → slice_get inboxes worker ≡ Some inbox → IsEmptied noted end inbox

-- what a worker had kept back and pushed is these operations and the begin of one more: then that begin is
-- kept
abbrev pub KeepsBeginning : LogEnd → Inbox → Inbox → Type 0
KeepsBeginning end from inbox =
    (left : List (List ℕ)) (operations : List Operation) (tail : List ℕ) → pushed end ≡ taken from ++ left
    → AreOperations operations
    → IsBeginning tail → kept from ++ joined left ≡ operations_bytes operations ++ tail → kept inbox ≡ tail

-- the same of each worker
abbrev pub KeepBeginnings : List LogEnd → List Inbox → List Inbox → Type 0
KeepBeginnings ends was inboxes =
    (worker : ℕ) (end : LogEnd) (from inbox : Inbox) → slice_get ends worker ≡ Some end
    → slice_get was worker ≡ Some from
    → slice_get inboxes worker ≡ Some inbox → KeepsBeginning end from inbox

-- what was kept of a worker and what was given are operations together: then nothing is kept
abbrev pub KeepsNothing : List Inbox → List Inbox → ℕ → List ℕ → Type 0
KeepsNothing was inboxes worker bytes =
    (from inbox : Inbox) (operations : List Operation) → slice_get was worker ≡ Some from
    → slice_get inboxes worker ≡ Some inbox
    → AreOperations operations → kept from ++ bytes ≡ operations_bytes operations → kept inbox ≡ []

-- So many of the bytes were taken beside the ring of a worker, and with what was kept of it they were
-- appended as far as they are whole; where all was done, all of them were taken, or no operation can be
-- appended.
pub record GivesTo (tells : Type 0) (before now : Writer) (done : Bool) (was inboxes : List Inbox)
    (worker : ℕ) (bytes : List ℕ) : Type 0 where
  pub from : Inbox
  pub inbox : Inbox
  pub at : ℕ
  pub within : at ≤ length bytes
  pub there : slice_get was worker ≡ Some from
  pub others_stay : inboxes ≡ set was worker inbox
  pub given : AppendsGiven tells before now done from inbox (take at bytes)
  pub all : IsTrue done
      → IsHalted inbox (length now.lines) ⊎ ((at ≡ length bytes) × BeginsWithNone (kept inbox))
