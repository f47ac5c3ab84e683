-- A frame: a record of the log as it stands on the disk. Numbers are little-endian.
--
--   offset  size  field
--        0     1  kind, 1 to 6
--        1     8  the segment in which this frame stands
--        9     4  the offset in that segment where it begins
--       13     4  length n of the payload, at most 65,494
--       17     n  payload
--   17 + n     4  CRC-32 of all bytes before
--
-- A frame ends at an offset of at most 67,108,843, and one of kind 6, a SEAL, of at most
-- 67,108,864. Since a frame names its own place, bytes of another place or of an older log are no
-- frame here.
use Rattle.std.specs.Prelude.{ℕ, ◌+◌, ◌^◌, ◌<◌, ◌≤◌, Bool, ◌&&◌, nat_eq, nat_lt, nat_le, ◌==◌}
use Rattle.std.specs.Prelude.{if◌then◌else◌, List, ◌∷◌, ◌++◌, length, slice_index, slice_range, Option}
use Rattle.std.specs.Prelude.{Some, None}
use Rattle.std.specs.List.{starts_with}
use Rattle.std.specs.Int.{w32, w64, to_le_bytes, from_le_bytes}
use Rattle.pm_types.specs.declared.place.Place.{Place}
use Rattle.pm_frame.specs.Crc.{crc_of}
use Rattle.pm_frame.specs.declared.kinds.TheConstants.{LOGICAL, SEAL}
use Rattle.pm_frame.specs.declared.limits.TheConstants.{HEAD_LEN, FRAME_EXTRA, PAYLOAD_MAX}
use Rattle.pm_frame.specs.declared.limits.TheConstants.{FRAME_END_MAX, SEGMENT_END_MAX}

-- a frame without its place
pub record Frame : Type 0 where
  pub kind : ℕ
  pub payload : List ℕ

-- how many bytes it has
abbrev pub frame_len : Frame → ℕ
frame_len frame = length frame.payload + FRAME_EXTRA

-- what stands before the payload
unfoldable pub head_bytes : ℕ → Place → ℕ → List ℕ
head_bytes kind place payload_len =
    kind ∷ (to_le_bytes w64 place.seg ++ (to_le_bytes w32 place.off ++ to_le_bytes w32 payload_len))

-- what the sum is taken of
unfoldable pub summed_bytes : Place → Frame → List ℕ
summed_bytes place frame = head_bytes frame.kind place (length frame.payload) ++ frame.payload

-- the bytes of the frame at this place
unfoldable pub frame_bytes : Place → Frame → List ℕ
frame_bytes place frame = summed_bytes place frame ++ to_le_bytes w32 (crc_of (summed_bytes place frame))

-- the offset at which a frame of this kind ends at the latest
abbrev pub end_max : ℕ → ℕ
end_max kind = if kind == SEAL then SEGMENT_END_MAX else FRAME_END_MAX

-- a frame of this kind, with so many bytes of payload, may stand at the place
pub record IsHead (place : Place) (kind payload_len : ℕ) : Type 0 where
  pub known_from : LOGICAL ≤ kind
  pub known_to : kind ≤ SEAL
  pub short : payload_len ≤ PAYLOAD_MAX
  pub ends : place.off + payload_len + FRAME_EXTRA ≤ end_max kind
  pub numbered : place.seg < 2 ^ 64

-- the frame may stand at this place
abbrev pub IsFrame : Place → Frame → Type 0
IsFrame place frame = IsHead place frame.kind (length frame.payload)

-- the same as a test
abbrev pub is_frame : Place → Frame → Bool
is_frame place frame =
    nat_le LOGICAL frame.kind && nat_le frame.kind SEAL && nat_le (length frame.payload) PAYLOAD_MAX
    && nat_le (place.off + length frame.payload + FRAME_EXTRA) (end_max frame.kind) && nat_lt place.seg (2 ^ 64)

-- the frame that these bytes would be, by the kind and the length that they name
unfoldable pub named_frame : List ℕ → Frame
named_frame bytes =
    let payload_len : ℕ = from_le_bytes w32 (slice_range bytes 13 17) in
    record { kind = slice_index bytes 0; payload = slice_range bytes HEAD_LEN (HEAD_LEN + payload_len) }

-- the frame of this place that stands at the front of the bytes
unfoldable pub frame_at : Place → List ℕ → Option Frame
frame_at place bytes =
    let frame = named_frame bytes in
    if is_frame place frame && starts_with nat_eq bytes (frame_bytes place frame) then Some frame else None
