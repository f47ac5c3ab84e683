-- Lines as records of the log, and records as lines.
use Rattle.std.specs.Prelude.{◌≡◌, ℕ, List, [], ◌∷◌, Option, Some, None}
use Rattle.pm_frame.specs.declared.kinds.TheConstants.{LOGICAL}
use Rattle.pm_frame.specs.Frames.{Frame}
use Rattle.pm_records.specs.declared.limits.TheConstants.{PUT, REMOVE}
use Rattle.pm_records.specs.Logs.{record_frame}
use Rattle.pm_records.specs.Records.{Record, IsRecord, Logical, payload_of}
use Rattle.pm_model.specs.declared.line.Cmd.{Cmd}
use Rattle.pm_model.specs.declared.line.Cmd.TheVariants.{Put, Get, Remove, Scan, Checkpoint}
use Rattle.pm_model.specs.declared.line.Line.{Line}
use Rattle.pm_model.specs.declared.line.Line.TheVariants.{Good}

-- the record of a line, where it has one
abbrev pub record_of_line : Line → Option Record
record_of_line (Good (Put cache key value)) = Some (Logical PUT cache key value)
record_of_line (Good (Remove cache key)) = Some (Logical REMOVE cache key [])
record_of_line line = None

-- the payload of a record that is in its grammar, where there is one
abbrev pub IsPayloadOf : Option Record → List ℕ → Type 0
IsPayloadOf None payload = Unit {0}
IsPayloadOf (Some found) payload = IsRecord found × (payload ≡ payload_of found)

-- the frame of a logical record with this payload
abbrev pub logical_frame : List ℕ → Frame
logical_frame payload = record { kind = LOGICAL; payload = payload }

-- the frame of a line's record, none where it has no record
abbrev pub frames_of_record : Option Record → List Frame
frames_of_record None = []
frames_of_record (Some found) = record_frame found ∷ []

abbrev pub line_frames : Line → List Frame
line_frames line = frames_of_record (record_of_line line)

-- a command of this key
abbrev pub IsKeyOf : List ℕ → Cmd → Type 0
IsKeyOf key (Put cache at value) = at ≡ key
IsKeyOf key (Get cache at) = at ≡ key
IsKeyOf key (Remove cache at) = at ≡ key
IsKeyOf key (Scan cache) = ⊥
IsKeyOf key Checkpoint = ⊥
