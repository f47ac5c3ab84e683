-- The calls that the log writer makes on the log, and what they do.
use Rattle.std.specs.Prelude.{◌≡◌, ◌<◌, ◌+◌, ℕ, zero, suc, List, [], ◌∷◌, ◌++◌, take, length, Bool}
use Rattle.std.specs.Prelude.{true, false, ◌||◌, ◌&&◌, not, ◌==◌, if◌then◌else◌, Option, Some, None}
use Rattle.pm_frame.specs.declared.kinds.TheConstants.{LOGICAL}
use Rattle.pm_frame.specs.Frames.{Frame}
use Rattle.pm_disk.specs.Moments.{AllMoments}
use Rattle.pm_records.specs.LogSteps.{Step, Force, world_after, DoesPrefix}
use Rattle.pm_segments.specs.Appends.{append_steps, grown, steps_of}
use Rattle.pm_segments.specs.Ends.{LogEnd, EndsThere}
use Rattle.pm_records.specs.Operations.{Operation}
use Rattle.pm_logger.specs.Writers.{Writer}
use Rattle.pm_logger.specs.declared.limits.TheConstants.{FORCE_AFTER}

-- one call
pub data LogCall : Type 0 where
  -- a frame is appended; a line is named where the frame is its logical record
  AppendFrame : (line : Option ℕ) (frame : Frame) → LogCall
  ForceLog : LogCall

-- the steps that it makes
abbrev pub call_steps : LogEnd → LogCall → List Step
call_steps log (AppendFrame line frame) = append_steps log frame
call_steps log ForceLog = Force ∷ []

-- and those of one that failed: an append may have come to its frame's own write or not
abbrev pub failed_steps : Bool → LogEnd → LogCall → List Step
failed_steps tried log (AppendFrame line frame) = steps_of tried log frame
failed_steps tried log ForceLog = Force ∷ []

-- the log after it
abbrev pub call_log : LogEnd → LogCall → LogEnd
call_log log (AppendFrame line frame) = grown log frame
call_log log ForceLog = log

-- the same of calls, one after the other
abbrev pub calls_steps : LogEnd → List LogCall → List Step
calls_steps log [] = []
calls_steps log (call ∷ calls) = call_steps log call ++ calls_steps (call_log log call) calls

abbrev pub calls_log : LogEnd → List LogCall → LogEnd
calls_log log [] = log
calls_log log (call ∷ calls) = calls_log (call_log log call) calls

-- the steps of calls of which so many were done, and the next one failed
abbrev pub broken_steps : Bool → LogEnd → List LogCall → ℕ → List Step
broken_steps tried log [] count = []
broken_steps tried log (call ∷ calls) zero = failed_steps tried log call
broken_steps tried log (call ∷ calls) (suc count) =
    call_steps log call ++ broken_steps tried (call_log log call) calls count

-- the lines whose logical record these calls append, in their order
abbrev pub lines_in : List LogCall → List ℕ
lines_in [] = []
lines_in (AppendFrame (Some line) frame ∷ calls) = line ∷ lines_in calls
lines_in (AppendFrame None frame ∷ calls) = lines_in calls
lines_in (ForceLog ∷ calls) = lines_in calls

-- The calls were made, one after the other. The lines of their logical records were noted.
pub record MakesCalls (tells : Type 0) (before now : Writer) (calls : List LogCall) : Type 0 where
  pub log_is : now.log ≡ calls_log before.log calls
  pub lines_are : now.lines ≡ before.lines ++ lines_in calls
  pub ends : tells → EndsThere now.log now.history.world
  pub world : tells
      → now.history.world ≡ world_after (calls_steps before.log calls) before.log.end before.history.world
  pub moments : tells → AllMoments before.history now.history
      (DoesPrefix (calls_steps before.log calls) before.log.end before.history.world)

-- So many of the calls were made, and the next one failed. The lines were noted whose logical record's write
-- was tried.
pub record BreaksOff (tells : Type 0) (before now : Writer) (calls : List LogCall) : Type 0 where
  pub count : ℕ
  pub within : count < length calls
  pub lines_are : now.lines
      ≡ before.lines ++ lines_in (take (if now.log.tried then count + 1 else count) calls)
  pub moments : tells → AllMoments before.history now.history
      (DoesPrefix (broken_steps now.log.tried before.log calls count) before.log.end before.history.world)

-- either all of the calls were made, or one failed
abbrev pub DoesCalls : (tells : Type 0) → (before now : Writer) → (done : Bool) → List LogCall → Type 0
DoesCalls tells before now true calls = MakesCalls tells before now calls
DoesCalls tells before now false calls = BreaksOff tells before now calls

-- the line that a record's append names: where it is the first logical record of its operation
abbrev pub named_line : ℕ → Bool → ℕ → Option ℕ
named_line line is_named kind = if kind == LOGICAL && not is_named then Some line else None

-- the calls that append an operation's records, of which one may have named the line before
abbrev pub record_calls : ℕ → Bool → List Frame → List LogCall
record_calls line is_named [] = []
record_calls line is_named (frame ∷ frames) =
    AppendFrame (named_line line is_named frame.kind) frame
    ∷ record_calls line (is_named || frame.kind == LOGICAL) frames

-- the log is forced once so many operations were appended since it was forced last
abbrev pub force_calls : ℕ → List LogCall
force_calls since = if since + 1 == FORCE_AFTER then ForceLog ∷ [] else []

-- how many were, after one more
abbrev pub next_since : ℕ → ℕ
next_since since = if since + 1 == FORCE_AFTER then 0 else since + 1

-- the calls that append an operation
abbrev pub operation_calls : ℕ → Operation → List LogCall
operation_calls since operation = record_calls operation.line false operation.records ++ force_calls since

-- the calls that append operations, one after the other
abbrev pub operations_calls : ℕ → List Operation → List LogCall
operations_calls since [] = []
operations_calls since (operation ∷ operations) =
    operation_calls since operation ++ operations_calls (next_since since) operations

abbrev pub since_after : ℕ → List Operation → ℕ
since_after since [] = since
since_after since (operation ∷ operations) = since_after (next_since since) operations

-- the lines noted, with one more where it is named and the write of its record was tried
abbrev pub noted : List ℕ → Bool → Option ℕ → List ℕ
noted lines tried None = lines
noted lines tried (Some line) = if tried then lines ++ line ∷ [] else lines
