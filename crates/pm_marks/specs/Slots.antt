-- A slot of a marker file: 64 bytes that say what a checkpoint's marker says. Numbers are little-endian.
--
--   offset  size  field
--        0     8  number of the checkpoint, from 1; its remainder modulo 2 is the slot's number
--        8  8, 4  begin place: segment, from 1, and offset, at most 67,108,843
--       20  8, 4  replay place
--       32     4  page size
--       36     2  partitions
--       38     2  version
--       40     4  most rows of a partition
--       44     4  most bytes of a log segment
--       48  8, 4  from place
--       60     4  CRC-32 of all bytes before
--
-- A marker file has two slots: slot 0 begins at offset 0, slot 1 at offset 64.
use Rattle.std.specs.Prelude.{ℕ, ◌+◌, ◌%◌, ◌^◌, ◌<◌, ◌≤◌, Bool, ◌&&◌, nat_eq, nat_lt, nat_le, ◌==◌}
use Rattle.std.specs.Prelude.{if◌then◌else◌, List, ◌++◌, take, drop, Option, Some, None}
use Rattle.std.specs.Cmp.Lexicographic.{pointwise}
use Rattle.std.specs.Int.{w32, w64, to_le_bytes}
use Rattle.pm_types.specs.declared.place.Place.{Place}
use Rattle.pm_types.specs.declared.shape.Mark.{Mark}
use Rattle.pm_types.specs.declared.shape.Shape.{Shape}
use Rattle.pm_types.specs.Fields.{u16_at, u32_at, u64_at}
use Rattle.pm_types.specs.Shapes.{IsShape, is_shape}
use Rattle.pm_frame.specs.Crc.{crc_of}
use Rattle.pm_frame.specs.declared.limits.TheConstants.{FRAME_END_MAX}
use Rattle.pm_records.specs.Shapes.{shape_bytes}
use Rattle.pm_disk.specs.Worlds.{slot_at}
use Rattle.pm_disk.specs.declared.mark.TheConstants.{SLOT_LEN}

-- the bytes of a place
abbrev pub place_bytes : Place → List ℕ
place_bytes place = to_le_bytes w64 place.seg ++ to_le_bytes w32 place.off

-- what the sum is taken of
unfoldable pub marked_bytes : Mark → List ℕ
marked_bytes mark =
    to_le_bytes w64 mark.number ++ (place_bytes mark.begin ++ (place_bytes mark.replay
    ++ (shape_bytes mark.shape ++ place_bytes mark.from)))

-- the bytes of the slot that has this mark
unfoldable pub slot_bytes : Mark → List ℕ
slot_bytes mark = marked_bytes mark ++ to_le_bytes w32 (crc_of (marked_bytes mark))

-- a mark may name this place: segments are numbered from 1, and a frame ends there at the latest
pub record IsMarkPlace (place : Place) : Type 0 where
  pub numbered : 1 ≤ place.seg
  pub seg_fits : place.seg < 2 ^ 64
  pub within : place.off ≤ FRAME_END_MAX

-- what a marker may say
pub record IsMark (mark : Mark) : Type 0 where
  pub numbered : 1 ≤ mark.number
  pub number_fits : mark.number < 2 ^ 64
  pub begin : IsMarkPlace mark.begin
  pub replay : IsMarkPlace mark.replay
  pub from : IsMarkPlace mark.from
  pub shape : IsShape mark.shape

-- the slot of the checkpoint of this number
abbrev pub slot_of : ℕ → ℕ
slot_of number = number % 2

-- the same as tests
abbrev pub is_mark_place : Place → Bool
is_mark_place place = nat_le 1 place.seg && nat_lt place.seg (2 ^ 64) && nat_le place.off FRAME_END_MAX

abbrev pub is_mark : Mark → Bool
is_mark mark =
    nat_le 1 mark.number && nat_lt mark.number (2 ^ 64) && is_mark_place mark.begin && is_mark_place mark.replay
    && is_mark_place mark.from && is_shape mark.shape

-- the place that stands at an offset
abbrev pub named_place : List ℕ → ℕ → Place
named_place bytes at = record { seg = u64_at bytes at; off = u32_at bytes (at + 8) }

-- the shape that stands at an offset
abbrev pub named_shape : List ℕ → ℕ → Shape
named_shape bytes at = record {
  page_size = u32_at bytes at;
  partitions = u16_at bytes (at + 4);
  version = u16_at bytes (at + 6);
  max_rows = u32_at bytes (at + 8);
  segment_bytes = u32_at bytes (at + 12);
}

-- the mark that the bytes of a slot would be
unfoldable pub named_mark : List ℕ → Mark
named_mark bytes = record {
  number = u64_at bytes 0;
  begin = named_place bytes 8;
  replay = named_place bytes 20;
  from = named_place bytes 48;
  shape = named_shape bytes 32;
}

-- the mark that a slot with these bytes has, none where it isn't valid
unfoldable pub mark_in : ℕ → List ℕ → Option Mark
mark_in slot bytes =
    let mark = named_mark bytes in
    if is_mark mark && slot_of mark.number == slot && pointwise nat_eq bytes
    (slot_bytes mark) then Some mark else None

-- the bytes of a slot of a marker file; fewer where the file ends before the slot does
abbrev pub bytes_in_slot : ℕ → List ℕ → List ℕ
bytes_in_slot slot file = take SLOT_LEN (drop (slot_at slot) file)

-- the mark in a slot of a marker file, none where the slot isn't valid
abbrev pub mark_at : ℕ → List ℕ → Option Mark
mark_at slot file = mark_in slot (bytes_in_slot slot file)
