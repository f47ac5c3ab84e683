-- The mark of a checkpoint, and its begin in the log.
use Rattle.std.specs.Prelude.{◌≡◌, ◌≤◌, ℕ, ◌+◌, ◌^◌, nat_lt, if◌then◌else◌, min, List, [], ◌∷◌, ◌++◌}
use Rattle.std.specs.Prelude.{Option, Some, None}
use Rattle.pm_core.specs.PageSets.{PageList}
use Rattle.pm_types.specs.declared.place.Place.{Place}
use Rattle.pm_types.specs.declared.shape.Mark.{Mark}
use Rattle.pm_types.specs.declared.shape.Shape.{Shape}
use Rattle.pm_frame.specs.declared.limits.TheConstants.{FRAME_EXTRA}
use Rattle.pm_frame.specs.Frames.{Frame}
use Rattle.pm_records.specs.Logs.{place, record_frame}
use Rattle.pm_records.specs.LogSteps.{Step, Force}
use Rattle.pm_records.specs.Records.{CpBegin}
use Rattle.pm_segments.specs.Appends.{roomy, append_steps, grown}
use Rattle.pm_segments.specs.Drops.{kept_from}
use Rattle.pm_segments.specs.Ends.{LogEnd}
use Rattle.pm_records.specs.declared.limits.TheConstants.{CP_BEGIN_LEN}

-- What is kept for checkpoints: the store's shape, the start marker in force, and room for the pages
-- of a checkpoint; no room once a call failed.
pub record Kept : Type 0 where
  pub shape : Shape
  pub mark : Option Mark
  pub room : Option ℕ

-- the room of the set that is kept, none where it isn't
abbrev pub room_of : Option (Option PageList) → Option ℕ
room_of None = None
room_of (Some None) = None
room_of (Some (Some set)) = Some set.spare

-- the set that is kept is empty and has room for so many pages, and the lists beside it have that room too
abbrev pub HaveRoom : Option (Option PageList) → ℕ → ℕ → ℕ → Type 0
HaveRoom None frames pages order = Unit {0}
HaveRoom (Some None) frames pages order = Unit {0}
HaveRoom (Some (Some set)) frames pages order =
    (set.pages ≡ []) × (set.spare ≡ frames) × (frames ≤ pages) × (frames ≤ order)

-- no call failed, and there is room for so many pages
pub record HasRoomFor (pages : ℕ) (kept : Kept) : Type 0 where
  pub room : ℕ
  pub is : kept.room ≡ Some room
  pub enough : pages ≤ room

-- with the start marker of a checkpoint that is ended
abbrev pub with_mark : Mark → Kept → Kept
with_mark mark kept = record kept { mark = Some mark }

-- as a call leaves it that failed
abbrev pub spent : Kept → Kept
spent kept = record kept { room = None }

-- the number of the checkpoint after this one, while there is one
abbrev pub number_after : Option Mark → ℕ
number_after None = 1
number_after (Some mark) = mark.number + 1

-- numbers have 64 bits: after the highest one they begin again
abbrev pub next_number : Option Mark → ℕ
next_number before = if nat_lt (number_after before) (2 ^ 64) then number_after before else 1

-- from where a restart without the next end marker reads the physical records: the begin of the
-- checkpoint before, or the log's begin
abbrev pub from_after : Option Mark → Place
from_after None = place 1 0
from_after (Some mark) = mark.begin

-- where the begin of a checkpoint goes
abbrev pub begin_of : LogEnd → Place
begin_of log = (roomy log CP_BEGIN_LEN).end

-- the replay place that was asked for, or the place just after the begin
abbrev pub replay_or : Option Place → Place → Place
replay_or (Some replay) begin = replay
replay_or None begin = place begin.seg (begin.off + (CP_BEGIN_LEN + FRAME_EXTRA))

-- the mark of the next checkpoint
abbrev pub next_mark : Shape → Option Mark → LogEnd → Option Place → Mark
next_mark shape before log replay = record {
  number = next_number before;
  begin = begin_of log;
  replay = replay_or replay (begin_of log);
  from = from_after before;
  shape = shape;
}

-- the same, by what is kept
abbrev pub mark_for : Kept → LogEnd → Option Place → Mark
mark_for kept log replay = next_mark kept.shape kept.mark log replay

-- its begin in the log
abbrev pub begin_frame : Mark → Frame
begin_frame mark = record_frame (CpBegin mark.number mark.replay)

-- the begin is appended, and the log forced past it
abbrev pub begin_log : LogEnd → Mark → List Step
begin_log log mark = append_steps log (begin_frame mark) ++ Force ∷ []

-- the segment of the lower one of the mark's begin and replay places: those below it are dropped
abbrev pub kept_segment : Mark → ℕ
kept_segment mark = min mark.begin.seg mark.replay.seg

-- the log after the checkpoint
abbrev pub log_after : LogEnd → Mark → LogEnd
log_after log mark = kept_from (kept_segment mark) (grown log (begin_frame mark))
