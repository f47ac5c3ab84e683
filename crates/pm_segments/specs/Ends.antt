-- What contracts see of a log that is written.
use Rattle.std.specs.Prelude.{◌≡◌, ◌≤◌, ◌<◌, ◌+◌, ◌-◌, ◌^◌, ℕ, min, length, Bool, true, false, nat_le}
use Rattle.pm_types.specs.declared.place.Place.{Place}
use Rattle.pm_types.specs.declared.limits.TheConstants.{SEGMENT_BYTES_MIN, SEGMENT_BYTES_MAX}
use Rattle.pm_frame.specs.declared.limits.TheConstants.{FRAME_EXTRA, FRAME_END_MAX, SEGMENT_END_MAX}
use Rattle.pm_frame.specs.Frames.{Frame, frame_len}
use Rattle.pm_disk.specs.Files.{bytes_of}
use Rattle.pm_disk.specs.Worlds.{World, segment_in}
use Rattle.pm_records.specs.Logs.{HasNoSeal, place_after}
use Rattle.pm_records.specs.LogFiles.{Written, Ready}

-- Where the log ends, how long a segment may be, and what was appended.
pub record LogEnd : Type 0 where
  -- the first segment that is kept
  pub first : ℕ
  pub end : Place
  pub segment_bytes : ℕ
  -- whether the last append tried to write its own frame
  pub tried : Bool
  -- the bytes of all frames that were appended, at most 2^64 - 1
  pub total : ℕ

-- The last segment is kept, the end lies within a segment of the longest size, and a segment may
-- have as many bytes as one of a store.
pub record IsLogEnd (log : LogEnd) : Type 0 where
  pub kept : log.first ≤ log.end.seg
  pub within : log.end.off ≤ SEGMENT_END_MAX
  pub size_from : SEGMENT_BYTES_MIN ≤ log.segment_bytes
  pub size_to : log.segment_bytes ≤ SEGMENT_BYTES_MAX

-- a log that ends there, to which nothing was appended yet
abbrev pub fresh_log : ℕ → Place → ℕ → LogEnd
fresh_log first end segment_bytes =
    record { first = first; end = end; segment_bytes = segment_bytes; tried = false; total = 0 }

-- a record with so many bytes of payload fits after the end, and a SEAL after it
abbrev pub HasRoom : LogEnd → ℕ → Type 0
HasRoom log payload_len =
    log.end.off + (payload_len + FRAME_EXTRA) + FRAME_EXTRA ≤ log.segment_bytes

-- the same as a test
abbrev pub has_room : LogEnd → ℕ → Bool
has_room log payload_len =
    nat_le (log.end.off + (payload_len + FRAME_EXTRA) + FRAME_EXTRA) log.segment_bytes

-- The last segment is kept, and its file ends where the log ends.
pub record EndsThere (log : LogEnd) (world : World) : Type 0 where
  pub kept : log.first ≤ log.end.seg
  pub ends : length (bytes_of (segment_in world log.end.seg)) ≡ log.end.off

-- so many bytes more, up to the last value
abbrev pub counted : ℕ → ℕ → ℕ
counted total more = min (total + more) (2 ^ 64 - 1)

-- the log after a frame more
abbrev pub moved : LogEnd → Frame → LogEnd
moved log frame = record log {
  end = place_after log.end frame;
  tried = true;
  total = counted log.total (frame_len frame);
}

-- The log's tail was cut and forced, and only whole frames were written after it; the end isn't
-- after the SEAL of the last segment.
pub record LogIsOpen (log : LogEnd) (s : Written) : Type 0 where
  pub limits : IsLogEnd log
  pub ready : s.tail ≡ Ready
  pub plain : HasNoSeal s.pending
  pub room_to_seal : log.end.off ≤ FRAME_END_MAX
  pub numbered : log.end.seg + 1 < 2 ^ 64
