-- What the files of a log's segments are: what of the log is lasting, what was written after that,
-- and where its writer stands.
use Rattle.std.specs.Prelude.{◌≡◌, ◌≢◌, ◌<◌, ◌≤◌, ◌+◌, ℕ, List, [], ◌∷◌, ◌++◌, length, Some, None, true, false}
use Rattle.pm_types.specs.declared.place.Place.{Place}
use Rattle.pm_frame.specs.declared.kinds.TheConstants.{LOGICAL, SEAL}
use Rattle.pm_frame.specs.declared.limits.TheConstants.{PAYLOAD_MAX}
use Rattle.pm_frame.specs.Frames.{Frame, frame_len}
use Rattle.pm_disk.specs.Files.{File, bytes_of, content, at_change}
use Rattle.pm_disk.specs.Images.{Lasting}
use Rattle.pm_disk.specs.Worlds.{World}
use Rattle.pm_records.specs.Logs.{Grammar, all_frames, place, is_seal, is_last, is_over, after_frames}
use Rattle.pm_records.specs.Logs.{frames_len, without_seals, HasFrames, SegmentHasFrames, IsLogFrom}

-- what the segments' files hold now
abbrev pub contents : (ℕ → File) → ℕ → List ℕ
contents files seg = bytes_of (content (files seg))

-- what they held when they were forced last
abbrev pub forced_contents : (ℕ → File) → ℕ → List ℕ
forced_contents files seg = bytes_of (files seg).forced

-- Since the last force of a segment no other frame stood at these frames' places, nor one after
-- them. Only the last of them may be a SEAL, and only where there is a next segment.
abbrev pub OnlyTheseStood : Grammar → ℕ → File → ℕ → List Frame → Type 0
OnlyTheseStood g seg file off [] = (k : ℕ) → k ≤ length file.since
    → g.frame_at seg off (bytes_of (at_change file k)) ≡ None
OnlyTheseStood g seg file off (frame ∷ frames) =
    ((k : ℕ) (other : Frame) → k ≤ length file.since
    → g.frame_at seg off (bytes_of (at_change file k)) ≡ Some other → other ≡ frame)
    × (is_seal frame ≡ true → (frames ≡ []) × (is_last seg ≡ false))
    × (is_seal frame ≡ false → OnlyTheseStood g seg file (off + frame_len frame) frames)

-- What is known of the bytes after the log's end.
pub data Tail : Type 0 where
  Uncut : Tail  -- the log was read, and what is after its end wasn't cut
  AfterSeal : Tail  -- the last segment was forced with a SEAL at its end, and the next one wasn't cut
  Cutting : Tail  -- it was cut, and the cut isn't forced
  Ready : Tail  -- the file ends where the log ends, and frames may be written there

-- the segment's file holds the pending frames and nothing after them, and was never longer
pub record Writable (g : Grammar) (log : ℕ → File) (at : Place) (pending : List Frame) : Type 0 where
  pub run : SegmentHasFrames g at.seg (contents log at.seg) at.off pending
  pub short : (k : ℕ) → k ≤ length (log at.seg).since
      → length (bytes_of (at_change (log at.seg) k)) ≤ at.off + frames_len pending
  pub exact : length (contents log at.seg) ≡ at.off + frames_len pending

-- the file of the last segment is what is known of its tail
abbrev pub TailIs : Grammar → (ℕ → File) → Place → List Frame → Tail → Type 0
TailIs g log at pending Uncut = pending ≡ []
TailIs g log at pending AfterSeal = pending ≡ []
TailIs g log at pending Cutting = (pending ≡ []) × (length (contents log at.seg) ≡ at.off)
TailIs g log at pending Ready = Writable g log at pending

-- What the segments' files are from a segment on: the log is lasting up to a place, and from there
-- on these frames were written.
pub record FilesHoldLog (g : Grammar) (log : ℕ → File) (low : ℕ) (at : Place) (pending : List Frame)
    (tail : Tail) : Type 0 where
  pub reaches : low ≤ at.seg
  pub older : (seg : ℕ) → low ≤ seg → seg < at.seg → (log seg).since ≡ []
  pub below : Lasting (log at.seg) 0 at.off
  pub stood : OnlyTheseStood g at.seg (log at.seg) at.off pending
  pub above : (seg : ℕ) → at.seg < seg → (k : ℕ) → k ≤ length (log seg).since
      → length (bytes_of (at_change (log seg) k)) ≤ 0
  pub tail_is : TailIs g log at pending tail

-- these frames stand from a place on up to where the lasting log ends, and are lasting
pub record HasLasting (g : Grammar) (log : ℕ → File) (low : ℕ) (at from : Place)
    (frames : List Frame) : Type 0 where
  pub kept : low ≤ from.seg
  pub run : HasFrames g (forced_contents log) from frames
  pub to : after_frames from frames ≡ at
  pub goes_on : is_over from frames ≡ false

-- Of the log from a place on these frames are lasting, these were written after them, and so much
-- is known of what is after.
pub record HoldsLog (g : Grammar) (log : ℕ → File) (low : ℕ) (from at : Place)
    (lasting pending : List Frame) (tail : Tail)
    : Type 0 where
  pub files : FilesHoldLog g log low at pending tail
  pub leads : HasLasting g log low at from lasting

-- How far a log was written, from a place on.
pub record Written : Type 0 where
  -- where the lasting log ends
  pub at : Place
  -- the frames that lead there
  pub lasting : List Frame
  -- the frames that were written after them
  pub pending : List Frame
  pub tail : Tail

-- where the writer stands: at the log's end, after what is pending, or after the SEAL of the segment before
abbrev pub EndIs : Tail → Place → Place → List Frame → Type 0
EndIs Uncut end at pending = (end ≡ at) × (pending ≡ [])
EndIs AfterSeal end at pending = (at ≡ place (end.seg + 1) 0) × (pending ≡ [])
EndIs Cutting end at pending = (end ≡ at) × (pending ≡ [])
EndIs Ready end at pending = end ≡ place at.seg (at.off + frames_len pending)

-- the world's log is written so far, from a segment and a place on, and the writer stands there
pub record IsWritten (world : World) (low : ℕ) (from end : Place) (s : Written) : Type 0 where
  pub log : HoldsLog all_frames world.log low from s.at s.lasting s.pending s.tail
  pub ends : EndIs s.tail end s.at s.pending

-- a record that isn't a SEAL, of the kinds that a log takes
pub record IsRecordFrame (frame : Frame) : Type 0 where
  pub known_from : LOGICAL ≤ frame.kind
  pub known_to : frame.kind < SEAL
  pub short : length frame.payload ≤ PAYLOAD_MAX

-- The log has all the frames that it had, and after them these, besides SEALs.
pub record LogGrowsBy (old new : World) (more : List Frame) : Type 0 where
  pub before : List Frame
  pub was : IsLogFrom all_frames (contents old.log) (place 1 0) before
  pub added : List Frame
  pub now_is : IsLogFrom all_frames (contents new.log) (place 1 0) (before ++ added)
  pub added_are : without_seals added ≡ more

-- no segment but this one has a change that isn't forced
abbrev pub IsQuietBut : World → ℕ → Type 0
IsQuietBut world seg = (n : ℕ) → n ≢ seg → (world.log n).since ≡ []

-- nothing but the log is other than it was
pub record ChangesLog (old new : World) : Type 0 where
  pub pages : new.pages ≡ old.pages
  pub starts : new.starts ≡ old.starts
  pub ends : new.ends ≡ old.ends
  pub config : new.config ≡ old.config
  pub said : new.said ≡ old.said
  pub input : new.input ≡ old.input
