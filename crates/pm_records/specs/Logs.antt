-- The log: frames, one after the other over the bytes of its segments.
--
-- Segments are numbered from 1, and a number has 64 bits. A frame lies in one segment. After a SEAL
-- the log goes on at the begin of the next segment; a SEAL in segment 2^64 - 1 ends the log just
-- after itself. Else the log ends at the first place at which no frame stands.
use Rattle.std.specs.Prelude.{◌≡◌, ◌<◌, ◌+◌, ◌-◌, ◌^◌, ℕ, List, [], ◌∷◌, drop, Option, Some, None}
use Rattle.std.specs.Prelude.{if◌then◌else◌, ◌==◌, ◌&&◌, ◌||◌, not, Bool, true, false}
use Rattle.pm_types.specs.declared.place.Place.{Place}
use Rattle.pm_frame.specs.declared.kinds.TheConstants.{SEAL}
use Rattle.pm_frame.specs.Frames.{Frame, frame_len, frame_bytes, frame_at, is_frame}
use Rattle.pm_records.specs.Records.{Record, kind_of, payload_of, record_of}

-- a place in the log
abbrev pub place : ℕ → ℕ → Place
place seg off = record { seg = seg; off = off }

-- the record of a frame, none where its payload is in no grammar
abbrev pub record_in : Frame → Option Record
record_in frame = record_of frame.kind frame.payload

-- the frame of a record
abbrev pub record_frame : Record → Frame
record_frame found = record { kind = kind_of found; payload = payload_of found }

-- the frame that leads to the next segment
abbrev pub seal_frame : Frame
seal_frame = record { kind = SEAL; payload = [] }

-- whether a frame is a SEAL
abbrev pub is_seal : Frame → Bool
is_seal frame = frame.kind == SEAL

-- no SEAL is among these frames
abbrev pub HasNoSeal : List Frame → Type 0
HasNoSeal [] = Unit {0}
HasNoSeal (frame ∷ frames) = (is_seal frame ≡ false) × HasNoSeal frames

-- whether the last frame is a SEAL
abbrev pub is_sealed : List Frame → Bool
is_sealed [] = false
is_sealed (frame ∷ []) = is_seal frame
is_sealed (frame ∷ next ∷ frames) = is_sealed (next ∷ frames)

-- these frames, but for the SEALs
abbrev pub without_seals : List Frame → List Frame
without_seals [] = []
without_seals (frame ∷ frames) = if is_seal frame then without_seals frames else frame ∷ without_seals frames

-- how many bytes these frames have
abbrev pub frames_len : List Frame → ℕ
frames_len [] = 0
frames_len (frame ∷ frames) = frame_len frame + frames_len frames

-- whether a segment is the last one that there may be
abbrev pub is_last : ℕ → Bool
is_last seg = seg == 2 ^ 64 - 1

-- whether a frame at this place is a SEAL after which the log goes on in the next segment
abbrev pub enters_next : Place → Frame → Bool
enters_next at frame = is_seal frame && not (is_last at.seg)

-- whether a frame at this place is the SEAL of the last segment, which ends the log
abbrev pub ends_log : Place → Frame → Bool
ends_log at frame = is_seal frame && is_last at.seg

-- the place just after a frame, in its segment
abbrev pub place_after : Place → Frame → Place
place_after at frame = place at.seg (at.off + frame_len frame)

-- the place after a frame in the log
abbrev pub next_place : Place → Frame → Place
next_place at frame = if enters_next at frame then place (at.seg + 1) 0 else place_after at frame

-- the place after frames that stand one after the other from this place on
abbrev pub after_frames : Place → List Frame → Place
after_frames at [] = at
after_frames at (frame ∷ frames) = after_frames (next_place at frame) frames

-- whether one of these frames ends the log
abbrev pub is_over : Place → List Frame → Bool
is_over at [] = false
is_over at (frame ∷ frames) = ends_log at frame || is_over (next_place at frame) frames

-- How frames stand in the bytes of segments.
pub record Grammar : Type 0 where
  -- the frame that stands at an offset of a segment's bytes
  pub frame_at : ℕ → ℕ → List ℕ → Option Frame
  -- the bytes of a frame at an offset of a segment
  pub frame_bytes : ℕ → ℕ → Frame → List ℕ
  -- whether the frame may stand there
  pub fits : ℕ → ℕ → Frame → Bool

-- the grammar of the log's frames
abbrev pub all_frames : Grammar
all_frames = record {
  frame_at = λ seg off bytes. frame_at (place seg off) (drop off bytes);
  frame_bytes = λ seg off frame. frame_bytes (place seg off) frame;
  fits = λ seg off frame. is_frame (place seg off) frame;
}

-- these frames stand one after the other from this place on, in these segments' bytes, and none
-- follows one that ends the log
abbrev pub HasFrames : Grammar → (ℕ → List ℕ) → Place → List Frame → Type 0
HasFrames g bytes at [] = Unit {0}
HasFrames g bytes at (frame ∷ frames) =
    (g.frame_at at.seg at.off (bytes at.seg) ≡ Some frame) × (ends_log at frame ≡ true → frames ≡ [])
    × HasFrames g bytes (next_place at frame) frames

-- These frames are the log from a place on, in these segments' bytes: they stand one after the
-- other, and none after them.
pub record IsLogFrom (g : Grammar) (bytes : ℕ → List ℕ) (from : Place) (frames : List Frame) : Type 0 where
  pub run : HasFrames g bytes from frames
  pub ends : is_over from frames ≡ false
      → g.frame_at (after_frames from frames).seg (after_frames from frames).off
      (bytes (after_frames from frames).seg) ≡ None

-- The same, and no segment above the one in which the log ends has bytes.
pub record IsLogWithNothingAbove (g : Grammar) (bytes : ℕ → List ℕ) (from : Place)
    (frames : List Frame) : Type 0 where
  pub log : IsLogFrom g bytes from frames
  pub nothing_above : (seg : ℕ) → (after_frames from frames).seg < seg → bytes seg ≡ []

-- these frames stand one just after the other in one segment's bytes
abbrev pub SegmentHasFrames : Grammar → ℕ → List ℕ → ℕ → List Frame → Type 0
SegmentHasFrames g seg bytes off [] = Unit {0}
SegmentHasFrames g seg bytes off (frame ∷ frames) =
    (g.frame_at seg off bytes ≡ Some frame) × SegmentHasFrames g seg bytes (off + frame_len frame) frames
