-- The steps by which a log changes. Each is one call on the disk, made where the log ends.
--
--   CutTail       the segment of the log's end is cut there
--   Append        a frame is written at the log's end, and the log ends after it
--   Force         the segment of the log's end is forced
--   NextSegment   the next segment is cut to nothing, and the log ends at its begin
--   DropSegment   a segment is removed
--   ForceSegment  a segment is forced, by its number
--
-- Segments are numbered from 1. After segment 2^64 - 1 comes segment 1 again.
use Rattle.std.specs.Prelude.{◌≡◌, ◌≤◌, ◌+◌, ℕ, List, [], ◌∷◌, ◌++◌, length, take, if◌then◌else◌, Result, OnOk}
use Rattle.pm_types.specs.declared.place.Place.{Place}
use Rattle.pm_frame.specs.Frames.{Frame, frame_bytes}
use Rattle.pm_disk.specs.Files.{Write, Cut, Drop}
use Rattle.pm_disk.specs.Worlds.{World, log_changed, log_forced}
use Rattle.pm_disk.specs.Moments.{History, AllMoments}
use Rattle.pm_records.specs.Logs.{place, is_last, place_after, after_frames, is_sealed}
use Rattle.pm_records.specs.LogFiles.{Written, Tail, Uncut, AfterSeal, Cutting, Ready}

pub data Step : Type 0 where
  CutTail : Step
  Append : (frame : Frame) → Step
  Force : Step
  NextSegment : Step
  DropSegment : (seg : ℕ) → Step
  ForceSegment : (seg : ℕ) → Step

-- the segment that comes after this one
abbrev pub next_segment : ℕ → ℕ
next_segment seg = if is_last seg then 1 else seg + 1

-- where the next segment begins
abbrev pub next_begin : Place → Place
next_begin end = place (next_segment end.seg) 0

-- where the log ends after a step
abbrev pub step_end : Step → Place → Place
step_end CutTail end = end
step_end (Append frame) end = place_after end frame
step_end Force end = end
step_end NextSegment end = next_begin end
step_end (DropSegment seg) end = end
step_end (ForceSegment seg) end = end

-- the segment of a place was cut there
abbrev pub cut_at : Place → World → World
cut_at end world = log_changed end.seg (Cut end.off) world

-- the frame was written at this place
abbrev pub written : Place → Frame → World → World
written at frame world = log_changed at.seg (Write at.off (frame_bytes at frame)) world

-- what a step at the log's end makes of the world
abbrev pub step_world : Step → Place → World → World
step_world CutTail end world = cut_at end world
step_world (Append frame) end world = written end frame world
step_world Force end world = log_forced end.seg world
step_world NextSegment end world = log_changed (next_segment end.seg) (Cut 0) world
step_world (DropSegment seg) end world = log_changed seg Drop world
step_world (ForceSegment seg) end world = log_forced seg world

-- where the log ends after these steps, the first of them first
abbrev pub end_after : List Step → Place → Place
end_after [] end = end
end_after (step ∷ steps) end = end_after steps (step_end step end)

-- the world after these steps
abbrev pub world_after : List Step → Place → World → World
world_after [] end world = world
world_after (step ∷ steps) end world =
    world_after steps (step_end step end) (step_world step end world)

-- a prefix of these steps was done
abbrev pub DoesPrefix : List Step → Place → World → World → Type 0
DoesPrefix steps end old now =
    (k : ℕ) × (k ≤ length steps) × (now ≡ world_after (take k steps) end old)

-- These steps were done, one after the other; at an `Err` a prefix of them.
pub record DoesSteps {T E : Type 0} (old new : History) (result : Result T E) (steps : List Step) (end : Place)
    : Type 0 where
  pub all : OnOk result (new.world ≡ world_after steps end old.world)
  pub moments : AllMoments old new (DoesPrefix steps end old.world)

-- the tail is cut and the cut forced
abbrev pub cut_steps : List Step
cut_steps = CutTail ∷ Force ∷ []

-- the frames that steps append
abbrev pub frames_in : List Step → List Frame
frames_in [] = []
frames_in (CutTail ∷ steps) = frames_in steps
frames_in (Append frame ∷ steps) = frame ∷ frames_in steps
frames_in (Force ∷ steps) = frames_in steps
frames_in (NextSegment ∷ steps) = frames_in steps
frames_in (DropSegment seg ∷ steps) = frames_in steps
frames_in (ForceSegment seg ∷ steps) = frames_in steps

-- what is known of the tail once the last segment is forced: after a SEAL the log goes on in the next one
abbrev pub tail_forced : Tail → List Frame → Tail
tail_forced Uncut frames = Uncut
tail_forced AfterSeal frames = AfterSeal
tail_forced Cutting frames = Ready
tail_forced Ready frames = if is_sealed frames then AfterSeal else Ready

-- how far the log is written after a step
abbrev pub next_written : Step → Written → Written
next_written CutTail s = record s { tail = Cutting }
next_written (Append frame) s = record s { pending = s.pending ++ frame ∷ [] }
next_written Force s = record {
  at = after_frames s.at s.pending;
  lasting = s.lasting ++ s.pending;
  pending = [];
  tail = tail_forced s.tail s.pending;
}
next_written NextSegment s = record s { tail = Cutting }
next_written (DropSegment seg) s = s
next_written (ForceSegment seg) s = s

-- how far it is written after steps, the first of them first
abbrev pub written_after : List Step → Written → Written
written_after [] s = s
written_after (step ∷ steps) s = written_after steps (next_written step s)
