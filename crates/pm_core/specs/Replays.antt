-- What the frames of a log make of a map.
use Rattle.std.specs.Prelude.{◌==◌, if◌then◌else◌, List, [], ◌∷◌, Option, Some, None}
use Rattle.pm_types.specs.declared.shape.Shape.{Shape}
use Rattle.pm_frame.specs.Frames.{Frame}
use Rattle.pm_records.specs.declared.limits.TheConstants.{PUT}
use Rattle.pm_records.specs.Logs.{record_in}
use Rattle.pm_records.specs.Records.{Record, Logical}
use Rattle.pm_model.specs.declared.line.Cmd.TheVariants.{Put, Remove}
use Rattle.pm_model.specs.declared.line.Line.{Line}
use Rattle.pm_model.specs.declared.line.Line.TheVariants.{Good}
use Rattle.pm_model.specs.Eval.{Pairs, is_accepted, after}

-- the map after a put that is replayed, none where its partition is full
abbrev pub put_replayed : Shape → Line → Pairs → Option Pairs
put_replayed shape line pairs = if is_accepted shape line pairs then Some (after shape line pairs) else None

-- The map after a record, none where the record can't be: its payload is in no grammar, or it is a
-- put that meets a full partition. A remove of an absent key changes nothing, and so do the records
-- that aren't logical.
abbrev pub replayed : Shape → Option Record → Pairs → Option Pairs
replayed shape None pairs = None
replayed shape (Some (Logical op cache key value)) pairs =
    if op == PUT
    then put_replayed shape (Good (Put cache key value)) pairs
    else Some (after shape (Good (Remove cache key)) pairs)
replayed shape (Some found) pairs = Some pairs

-- the map after a frame more, where there is one
abbrev pub then_replayed : Shape → Frame → Option Pairs → Option Pairs
then_replayed shape frame None = None
then_replayed shape frame (Some pairs) = replayed shape (record_in frame) pairs

-- the map after frames, the first of them first
abbrev pub all_replayed : Shape → List Frame → Option Pairs → Option Pairs
all_replayed shape [] found = found
all_replayed shape (frame ∷ frames) found = all_replayed shape frames (then_replayed shape frame found)
