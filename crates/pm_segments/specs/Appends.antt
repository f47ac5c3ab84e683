-- What an append does: where its record doesn't fit, the log rolls into the next segment first.
use Rattle.std.specs.Prelude.{◌≡◌, ◌⊎◌, ℕ, min, List, [], ◌∷◌, ◌++◌, length, Bool, true, false, nat_le}
use Rattle.std.specs.Prelude.{if◌then◌else◌}
use Rattle.pm_types.specs.declared.place.Place.{Place}
use Rattle.pm_frame.specs.declared.limits.TheConstants.{FRAME_EXTRA, FRAME_END_MAX}
use Rattle.pm_frame.specs.Frames.{Frame}
use Rattle.pm_disk.specs.Worlds.{World}
use Rattle.pm_records.specs.Logs.{seal_frame}
use Rattle.pm_records.specs.LogSteps.{Step, Append, Force, NextSegment, next_segment, next_begin, world_after}
use Rattle.pm_segments.specs.Ends.{LogEnd, has_room, moved, counted}

-- a SEAL fits into a segment of the longest size after this end
abbrev pub can_seal : Place → Bool
can_seal end = nat_le end.off FRAME_END_MAX

-- how many bytes a roll writes at this end
abbrev pub seal_len : Place → ℕ
seal_len end = if can_seal end then FRAME_EXTRA else 0

-- a SEAL is written where it fits
abbrev pub seal_steps : Place → List Step
seal_steps end = if can_seal end then Append seal_frame ∷ [] else []

-- the next segment is cut to nothing and forced
abbrev pub begin_steps : List Step
begin_steps = NextSegment ∷ Force ∷ []

-- the segment is forced, the next one cut to nothing and forced
abbrev pub enter_steps : List Step
enter_steps = Force ∷ begin_steps

-- the log goes on in the next segment
abbrev pub roll_steps : Place → List Step
roll_steps end = seal_steps end ++ enter_steps

-- the log that goes on in the next segment
abbrev pub rolled : LogEnd → LogEnd
rolled log = record log {
  first = min log.first (next_segment log.end.seg);
  end = next_begin log.end;
  total = counted log.total (seal_len log.end);
}

-- what comes before a frame with so many bytes of payload: where it doesn't fit, a roll
abbrev pub room_steps : LogEnd → ℕ → List Step
room_steps log payload_len = if has_room log payload_len then [] else roll_steps log.end

-- the log that has room for it
abbrev pub roomy : LogEnd → ℕ → LogEnd
roomy log payload_len = if has_room log payload_len then log else rolled log

-- the steps of an append
abbrev pub append_steps : LogEnd → Frame → List Step
append_steps log frame = room_steps log (length frame.payload) ++ Append frame ∷ []

-- the log after an appended frame
abbrev pub grown : LogEnd → Frame → LogEnd
grown log frame = moved (roomy log (length frame.payload)) frame

-- the steps of an append that came to the frame's own write, or didn't
abbrev pub steps_of : Bool → LogEnd → Frame → List Step
steps_of true log frame = append_steps log frame
steps_of false log frame = room_steps log (length frame.payload)

-- the log whose last append tried to write its own frame
abbrev pub tried_log : LogEnd → LogEnd
tried_log log = record log { tried = true }

-- the log as an append leaves it that failed
abbrev pub failed_append : Bool → LogEnd → Frame → LogEnd
failed_append true log frame = tried_log (roomy log (length frame.payload))
failed_append false log frame = record log { tried = false }

-- at the end of an append that came to the frame's own write all steps before it were done
abbrev pub Reaches : Bool → LogEnd → Frame → World → World → Type 0
Reaches true log frame old now =
    (now ≡ world_after (room_steps log (length frame.payload)) log.end old)
    ⊎ (now ≡ world_after (append_steps log frame) log.end old)
Reaches false log frame old now = Unit {0}
