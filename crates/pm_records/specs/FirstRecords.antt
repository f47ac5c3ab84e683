-- What the first record of a log holds: the store's shape.
use Rattle.std.specs.Prelude.{List, [], ◌∷◌, Bool, true, false, Option, Some, None}
use Rattle.pm_types.specs.declared.shape.Shape.{Shape}
use Rattle.pm_frame.specs.declared.kinds.TheConstants.{RESTART}
use Rattle.pm_frame.specs.Frames.{Frame}
use Rattle.pm_records.specs.Logs.{record_in}
use Rattle.pm_records.specs.Records.{Record, Logical, Snapshot, Delta, CpBegin, Restart, Seal, payload_of}

-- the frame that holds a store's shape
abbrev pub restart_frame : Shape → Frame
restart_frame shape = record { kind = RESTART; payload = payload_of (Restart shape) }

-- whether a record holds the store's shape
abbrev pub is_restart : Option Record → Bool
is_restart None = false
is_restart (Some (Logical op cache key value)) = false
is_restart (Some (Snapshot page bytes)) = false
is_restart (Some (Delta page ranges)) = false
is_restart (Some (CpBegin number replay)) = false
is_restart (Some (Restart shape)) = true
is_restart (Some Seal) = false

-- whether a log is empty or begins with a RESTART
abbrev pub begins_well : List Frame → Bool
begins_well [] = true
begins_well (frame ∷ frames) = is_restart (record_in frame)

-- the shape that a record holds, or the wanted one where it holds none
abbrev pub shape_in : Shape → Option Record → Shape
shape_in wanted None = wanted
shape_in wanted (Some (Logical op cache key value)) = wanted
shape_in wanted (Some (Snapshot page bytes)) = wanted
shape_in wanted (Some (Delta page ranges)) = wanted
shape_in wanted (Some (CpBegin number replay)) = wanted
shape_in wanted (Some (Restart shape)) = shape
shape_in wanted (Some Seal) = wanted

-- the store's shape: that of the log's first record, or the wanted one where there is none
abbrev pub log_shape : Shape → List Frame → Shape
log_shape wanted [] = wanted
log_shape wanted (frame ∷ frames) = shape_in wanted (record_in frame)
