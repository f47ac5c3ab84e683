-- What contracts see of a log that is read.
use Rattle.std.specs.Prelude.{◌≡◌, ◌+◌, ◌≤◌, ◌⊎◌, ℕ, List, [], length, take, drop, Bool, true, false}
use Rattle.std.specs.Prelude.{IsTrue, Option, Some, None, if◌then◌else◌}
use Rattle.pm_types.specs.declared.place.Place.{Place}
use Rattle.pm_frame.specs.declared.limits.TheConstants.{SEGMENT_END_MAX, FRAME_MAX}
use Rattle.pm_frame.specs.Frames.{Frame, frame_len, frame_at}
use Rattle.pm_disk.specs.Files.{bytes_of}
use Rattle.pm_disk.specs.Worlds.{World, segment_in}
use Rattle.pm_records.specs.Logs.{is_seal, is_last, place_after, next_place, ends_log}
use Rattle.pm_segments.specs.declared.scan.TheConstants.{BUFFER}

-- What a scan of the log holds.
pub record Scanned : Type 0 where
  -- the place of the frame that was given last, or of the log's end
  pub place : Place
  -- the place from which the scan goes on
  pub next : Place
  -- what was read of the segment from there on
  pub ahead : List ℕ
  -- whether the segment ends after that
  pub is_whole : Bool
  -- whether the log ended with a SEAL in the last segment
  pub is_over : Bool
  -- the frame that was given last, none at the log's end
  pub found : Option Frame

-- How a scan's buffer is used.
pub record IsScan (buffer : List ℕ) (at end payload_at payload_len kind : ℕ) (next : Place)
    : Type 0 where
  pub ordered : at ≤ end
  pub within : end ≤ length buffer
  pub room : length buffer ≡ BUFFER
  pub off : next.off ≤ SEGMENT_END_MAX
  pub payload : payload_at + payload_len ≤ length buffer

-- the frame that a scan shows
abbrev pub shown : Bool → List ℕ → ℕ → ℕ → ℕ → Option Frame
shown has_found buffer kind payload_at payload_len =
    if has_found
    then Some (record { kind = kind; payload = take payload_len (drop payload_at buffer) })
    else None

-- the bytes of a segment after a place
abbrev pub bytes_after : Place → World → List ℕ
bytes_after place world = drop place.off (bytes_of (segment_in world place.seg))

-- what a scan holds is what stands on the disk after the place from which it goes on
pub record IsAhead (scan : Scanned) (world : World) : Type 0 where
  pub front : scan.ahead ≡ take (length scan.ahead) (bytes_after scan.next world)
  pub whole : IsTrue scan.is_whole → scan.ahead ≡ bytes_after scan.next world

-- a whole frame is ahead, if there is one
abbrev pub SeesFrame : Scanned → Type 0
SeesFrame scan = (FRAME_MAX ≤ length scan.ahead) ⊎ IsTrue scan.is_whole

-- the frame that stands where a scan goes on, where the log isn't over
abbrev pub frame_ahead : Scanned → World → Option Frame
frame_ahead scan world = if scan.is_over then None else frame_at scan.next (bytes_after scan.next world)

-- a scan stays where it was
pub record StaysAt (old new : Scanned) : Type 0 where
  pub place : new.place ≡ old.place
  pub next : new.next ≡ old.next
  pub is_over : new.is_over ≡ old.is_over

-- a scan went on by a frame in its segment, or stays where none stands
abbrev pub StepsTo : Scanned → Scanned → Option Frame → Type 0
StepsTo old new None = (new.place ≡ old.next) × (new.next ≡ old.next)
StepsTo old new (Some frame) =
    (new.place ≡ old.next) × (new.next ≡ place_after old.next frame)

-- the bytes of a frame that was given are no longer ahead
abbrev pub StepsOver : Scanned → Scanned → Option Frame → Type 0
StepsOver old new None = (new.ahead ≡ old.ahead) × (new.is_whole ≡ old.is_whole)
StepsOver old new (Some frame) =
    (new.ahead ≡ drop (frame_len frame) old.ahead) × (new.is_whole ≡ old.is_whole)

-- whether a frame is a SEAL
abbrev pub found_seal : Option Frame → Bool
found_seal None = false
found_seal (Some frame) = is_seal frame

-- a scan at the begin of the next segment
abbrev pub entered : Scanned → Scanned
entered scan = record scan { next = record { seg = scan.next.seg + 1; off = 0 }; ahead = []; is_whole = false }

-- a scan after a SEAL: it goes on in the next segment, and in the last one the log is over
abbrev pub sealed : Scanned → Scanned
sealed scan = if is_last scan.next.seg then record scan { is_over = true } else entered scan

-- a scan after the frame that it found
abbrev pub past_seal : Scanned → Scanned
past_seal scan = if found_seal scan.found then sealed scan else scan

-- a scan went on by a frame, or stays at the log's end
abbrev pub Advances : Scanned → Scanned → Option Frame → Type 0
Advances old new None =
    (new.place ≡ old.next) × (new.next ≡ old.next) × (new.is_over ≡ old.is_over)
Advances old new (Some frame) =
    (new.place ≡ old.next) × (new.next ≡ next_place old.next frame) × (new.is_over ≡ ends_log old.next frame)

-- a scan that asks again whether its segment goes on after what it has read
abbrev pub looking_again : Scanned → Scanned
looking_again scan = record scan { is_whole = false }

-- a scan that has read nothing ahead
abbrev pub forgotten : Scanned → Scanned
forgotten scan = record scan { ahead = []; is_whole = false }

-- The next frame was given, none at the log's end, and the scan goes on after it.
pub record GivesNext (tells : Type 0) (old left : Scanned) (before now : World)
    (found : Option Frame) : Type 0 where
  pub advances : Advances old left found
  pub bound : left.next.off ≤ SEGMENT_END_MAX
  pub stands : tells → found ≡ frame_ahead old before
  pub ahead : tells → IsAhead left now
