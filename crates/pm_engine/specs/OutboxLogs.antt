-- What an outbox holds, as records of the log.
use Rattle.std.specs.Prelude.{◌≡◌, ◌≤◌, ◌+◌, ℕ, List, [], ◌∷◌, ◌++◌, length}
use Rattle.pm_frame.specs.Frames.{Frame}
use Rattle.pm_records.specs.Operations.{Operation, IsOperation, AreOperations, operation_bytes, operations_bytes}
use Rattle.pm_records.specs.Operations.{IsLogged, record_bytes}

-- the records of operations, one after the other
abbrev pub records_of : List Operation → List Frame
records_of [] = []
records_of (operation ∷ operations) = operation.records ++ records_of operations

-- the numbers of their lines
abbrev pub numbers_of : List Operation → List ℕ
numbers_of [] = []
numbers_of (operation ∷ operations) = operation.line ∷ numbers_of operations

-- these bytes are operations and nothing else, with these records
pub record SpellOperationRecords (bytes : List ℕ) (frames : List Frame) : Type 0 where
  pub operations : List Operation
  pub are : AreOperations operations
  pub bytes_are : bytes ≡ operations_bytes operations
  pub frames_are : frames ≡ records_of operations

-- these bytes are operations and nothing else
abbrev pub AreOperationBytes : List ℕ → Type 0
AreOperationBytes bytes = (frames : List Frame) × SpellOperationRecords bytes frames

-- an operation stands at the front of these bytes
abbrev pub BeginsWithOperation : List ℕ → Type 0
BeginsWithOperation bytes =
    (operation : Operation) × (more : List ℕ) × IsOperation operation × (bytes ≡ operation_bytes operation ++ more)

-- a record does
abbrev pub BeginsWithRecord : List ℕ → Type 0
BeginsWithRecord bytes =
    (frame : Frame) × (more : List ℕ) × IsLogged frame × (bytes ≡ record_bytes frame ++ more)

-- these bytes are operations and nothing else, of lines with these numbers
pub record SpellNumbers (bytes numbers : List ℕ) : Type 0 where
  pub operations : List Operation
  pub are : AreOperations operations
  pub bytes_are : bytes ≡ operations_bytes operations
  pub numbers_are : numbers ≡ numbers_of operations

-- these bytes are operations and nothing else, and with their numbers an order that has so many has no more than this
pub record HasNumberRoom (bytes : List ℕ) (count capacity : ℕ) : Type 0 where
  pub numbers : List ℕ
  pub spelled : SpellNumbers bytes numbers
  pub fits : count + length numbers ≤ capacity
