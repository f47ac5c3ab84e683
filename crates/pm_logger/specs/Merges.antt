-- How the log writer merges what the workers hand over: it appends the operations of each worker in their
-- order.
use Rattle.std.specs.Prelude.{◌≡◌, ◌<◌, ℕ, List, [], ◌∷◌, ◌++◌, length, ◌==◌, if◌then◌else◌, Some, Bool}
use Rattle.std.specs.List.{slice_get}
use Rattle.pm_logger.specs.Blocks.{joined}
use Rattle.pm_logger.specs.Fronts.{Appends, StandsFirst}
use Rattle.pm_logger.specs.Inboxes.{kept, Takes}
use Rattle.pm_records.specs.Operations.{Operation, AreOperations, operations_bytes}
use Rattle.pm_logger.specs.Writers.{Writer}
use Rattle.pm_logger.specs.declared.inbox.Inbox.{Inbox}

-- An operation in the log, and the worker whose it is.
pub record Entry : Type 0 where
  pub worker : ℕ
  pub operation : Operation

-- the operations, in the log's order
abbrev pub operations_in : List Entry → List Operation
operations_in [] = []
operations_in (entry ∷ entries) = entry.operation ∷ operations_in entries

-- those of one worker, in the same order
abbrev pub of_worker : ℕ → List Entry → List Operation
of_worker worker [] = []
of_worker worker (entry ∷ entries) =
    if entry.worker == worker then entry.operation ∷ of_worker worker entries else of_worker worker entries

-- each is of one of so many workers
abbrev pub AreOfWorkers : ℕ → List Entry → Type 0
AreOfWorkers count [] = Unit {0}
AreOfWorkers count (entry ∷ entries) = (entry.worker < count) × AreOfWorkers count entries

-- Of what a worker's ring and its kept bytes held these operations were appended, in their order, and the
-- rest is kept.
pub record HandsOver (was inbox : Inbox) (appended : List Operation) : Type 0 where
  pub came : List (List ℕ)
  pub takes : Takes was inbox came
  pub operations_are : AreOperations appended
  pub bytes_are : kept was ++ joined came ≡ operations_bytes appended ++ kept inbox

-- What was appended is a merge: of each worker it has what this worker handed over, in its order, and it has
-- nothing else.
pub record Merges (was inboxes : List Inbox) (entries : List Entry) : Type 0 where
  pub many : length inboxes ≡ length was
  pub of_these : AreOfWorkers (length was) entries
  pub each : (worker : ℕ) (old new : Inbox) → slice_get was worker ≡ Some old
      → slice_get inboxes worker ≡ Some new
      → HandsOver old new (of_worker worker entries)

-- this operation is the first of what is kept of one of the workers
abbrev pub IsNextKept : List Inbox → Operation → Type 0
IsNextKept inboxes operation =
    (worker : ℕ) × (worker < length inboxes)
    × ((inbox : Inbox) → slice_get inboxes worker ≡ Some inbox → StandsFirst operation (kept inbox))

-- A merge of what the workers handed over was appended; where not all was done, the operation that failed is
-- still the first of what is kept of its worker.
pub record AppendsMerge (tells : Type 0) (before now : Writer) (done : Bool) (was inboxes : List Inbox)
    : Type 0 where
  pub entries : List Entry
  pub merges : Merges was inboxes entries
  pub appends : Appends tells before now done (operations_in entries) (IsNextKept inboxes)
