-- What stands at the front of the bytes that a worker handed over, and how it is appended.
use Rattle.std.specs.Prelude.{◌≡◌, ◌≤◌, ◌<◌, ℕ, List, [], ◌∷◌, ◌++◌, length, take, Bool, true, false}
use Rattle.pm_types.specs.declared.limits.TheConstants.{OUTBOX, BATCH_LINES_MAX}
use Rattle.pm_logger.specs.LogCalls.{MakesCalls, BreaksOff, operations_calls, since_after}
use Rattle.pm_records.specs.Operations.{Operation, IsOperation, AreOperations, operation_bytes}
use Rattle.pm_records.specs.Operations.{operations_bytes, IsWhole, BeginsWithNone, IsBad}
use Rattle.pm_logger.specs.Writers.{Writer}
use Rattle.pm_logger.specs.declared.front.Stop.{Stop}
use Rattle.pm_logger.specs.declared.front.Stop.TheVariants as stop
use Rattle.pm_logger.specs.declared.operation.Front.{Front}
use Rattle.pm_logger.specs.declared.operation.Front.TheVariants.{Whole, Begun, Bad}

-- the first so many of these bytes are an operation's
abbrev pub IsWholeFront : List ℕ → ℕ → Type 0
IsWholeFront bytes len = (0 < len) × (len ≤ length bytes) × IsWhole (take len bytes)

-- an operation may be begun there: none stands there, and there is room for more of it
abbrev pub IsBegun : List ℕ → Type 0
IsBegun bytes = (length bytes < OUTBOX) × BeginsWithNone bytes

-- an operation of so many bytes stands there; one is begun; or none will stand there, whatever follows
abbrev pub IsFront : List ℕ → Front → Type 0
IsFront bytes (Whole len) = IsWholeFront bytes len
IsFront bytes Begun = IsBegun bytes
IsFront bytes Bad = IsBad bytes

-- why no more is appended of these bytes, with so many lines noted
abbrev pub IsStop : List ℕ → ℕ → Stop → Type 0
IsStop left noted stop.Begun = IsBegun left
IsStop left noted stop.Bad = IsBad left
IsStop left noted stop.Full = BATCH_LINES_MAX ≤ noted

-- this operation stands at the front of these bytes
abbrev pub StandsFirst : Operation → List ℕ → Type 0
StandsFirst operation bytes = (rest : List ℕ) × (bytes ≡ operation_bytes operation ++ rest)

-- These operations were appended, one after the other.
pub record AppendsAll (tells : Type 0) (before now : Writer) (appended : List Operation) : Type 0 where
  pub since_is : now.since ≡ since_after before.since appended
  pub makes : MakesCalls tells before now (operations_calls before.since appended)

-- These operations were appended, and the next one failed: it may be in the log in part, or whole.
pub record FailsAfter (tells : Type 0) (before now : Writer) (appended : List Operation) (failed : Operation)
    : Type 0 where
  pub failed_is : IsOperation failed
  pub breaks : BreaksOff tells before now (operations_calls before.since (appended ++ failed ∷ []))

-- These operations were appended; where not all was done, the next one failed, of which this holds.
abbrev pub Appends : (tells : Type 0) → (before now : Writer) → (done : Bool) → List Operation
    → (IsNext : Operation → Type 0) → Type 0
Appends tells before now true appended IsNext = AppendsAll tells before now appended
Appends tells before now false appended IsNext =
    (failed : Operation) × IsNext failed × FailsAfter tells before now appended failed

-- The operations at the front of these bytes were appended, and these are left; where not all was done, they
-- begin with the one that failed.
pub record AppendsFront (tells : Type 0) (before now : Writer) (done : Bool) (bytes left : List ℕ)
    : Type 0 where
  pub appended : List Operation
  pub operations_are : AreOperations appended
  pub bytes_are : bytes ≡ operations_bytes appended ++ left
  pub appends : Appends tells before now done appended (λ failed. StandsFirst failed left)
