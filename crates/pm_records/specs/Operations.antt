-- An operation, as a worker hands it to the log writer. Numbers are little-endian.
--
--   offset  size  field
--        0     4  the number of its line
--        4     4  how many bytes its records have
--        8        its records, one after the other
--
-- A record:
--
--   offset  size  field
--        0     1  kind: 1 logical, 2 snapshot, 3 delta
--        1     4  length n of the payload, at most 65,494
--        5     n  payload
--
-- An operation has at most as many bytes as a worker's outbox.
use Rattle.std.specs.Prelude.{◌≡◌, ◌≤◌, ◌<◌, ◌+◌, ◌^◌, ℕ, List, [], ◌∷◌, ◌++◌, length}
use Rattle.std.specs.Int.{w32, to_le_bytes}
use Rattle.pm_types.specs.declared.limits.TheConstants.{OUTBOX}
use Rattle.pm_frame.specs.declared.kinds.TheConstants.{LOGICAL, DELTA}
use Rattle.pm_frame.specs.declared.limits.TheConstants.{PAYLOAD_MAX}
use Rattle.pm_frame.specs.Frames.{Frame}

-- what a record has before its payload
unfoldable pub record_head : ℕ → ℕ → List ℕ
record_head kind len = kind ∷ to_le_bytes w32 len

-- the bytes of a record
unfoldable pub record_bytes : Frame → List ℕ
record_bytes frame = record_head frame.kind (length frame.payload) ++ frame.payload

-- the bytes of records, one after the other
abbrev pub records_bytes : List Frame → List ℕ
records_bytes [] = []
records_bytes (frame ∷ frames) = record_bytes frame ++ records_bytes frames

-- a record of this kind with this payload
abbrev pub frame_of : ℕ → List ℕ → Frame
frame_of kind payload = record { kind = kind; payload = payload }

-- An operation may have a record of this kind, with so many bytes of payload.
pub record MayBeLogged (kind payload_len : ℕ) : Type 0 where
  pub known_from : LOGICAL ≤ kind
  pub known_to : kind ≤ DELTA
  pub short : payload_len ≤ PAYLOAD_MAX

-- an operation may have this record
abbrev pub IsLogged : Frame → Type 0
IsLogged frame = MayBeLogged frame.kind (length frame.payload)

-- each of these is one
abbrev pub AreLogged : List Frame → Type 0
AreLogged [] = Unit {0}
AreLogged (frame ∷ frames) = IsLogged frame × AreLogged frames

-- these bytes are these records and nothing else
abbrev pub SpellRecords : List ℕ → List Frame → Type 0
SpellRecords bytes frames = AreLogged frames × (bytes ≡ records_bytes frames)

-- these bytes are records and nothing else
abbrev pub AreRecords : List ℕ → Type 0
AreRecords bytes = (frames : List Frame) × SpellRecords bytes frames

-- no record's bytes stand at the front of these
abbrev pub BeginsWithNoRecord : List ℕ → Type 0
BeginsWithNoRecord bytes =
    (frame : Frame) (rest : List ℕ) → IsLogged frame → bytes ≡ record_bytes frame ++ rest → ⊥

-- What a worker did for one line: the records that the log is to have of it.
pub record Operation : Type 0 where
  pub line : ℕ
  pub records : List Frame

-- what an operation has before its records
unfoldable pub operation_head : ℕ → ℕ → List ℕ
operation_head line len = to_le_bytes w32 line ++ to_le_bytes w32 len

-- the bytes of an operation
unfoldable pub operation_bytes : Operation → List ℕ
operation_bytes operation =
    operation_head operation.line (length (records_bytes operation.records)) ++ records_bytes operation.records

-- the bytes of operations, one after the other
abbrev pub operations_bytes : List Operation → List ℕ
operations_bytes [] = []
operations_bytes (operation ∷ operations) = operation_bytes operation ++ operations_bytes operations

-- The line's number fits its field, the records are such as an operation may have, and together they are no
-- longer than an outbox.
pub record IsOperation (operation : Operation) : Type 0 where
  pub numbered : operation.line < 2 ^ 32
  pub records_are : AreLogged operation.records
  pub short : 8 + length (records_bytes operation.records) ≤ OUTBOX

-- each of these is an operation
abbrev pub AreOperations : List Operation → Type 0
AreOperations [] = Unit {0}
AreOperations (operation ∷ operations) = IsOperation operation × AreOperations operations

-- these bytes are this operation and nothing else
abbrev pub SpellOperation : List ℕ → Operation → Type 0
SpellOperation bytes operation = IsOperation operation × (bytes ≡ operation_bytes operation)

-- these bytes are an operation's
abbrev pub IsWhole : List ℕ → Type 0
IsWhole bytes = (operation : Operation) × SpellOperation bytes operation

-- no operation's bytes stand at the front of these
abbrev pub BeginsWithNone : List ℕ → Type 0
BeginsWithNone bytes =
    (operation : Operation) (rest : List ℕ) → IsOperation operation
    → bytes ≡ operation_bytes operation ++ rest → ⊥

-- and whatever follows them, none will
abbrev pub IsBad : List ℕ → Type 0
IsBad bytes = (more : List ℕ) → BeginsWithNone (bytes ++ more)

-- an operation begins with these bytes, and has more
abbrev pub IsBeginning : List ℕ → Type 0
IsBeginning bytes =
    (operation : Operation) × (more : List ℕ) × IsOperation operation × (0 < length more)
    × (operation_bytes operation ≡ bytes ++ more)
