-- The bytes of a store's shape. Numbers are little-endian.
--
--   offset  size  field
--        0     4  page size, in bytes
--        4     2  partitions
--        6     2  version of the files
--        8     4  most rows of a partition
--       12     4  most bytes of a log segment
use Rattle.std.specs.Prelude.{ℕ, List, ◌++◌, slice_range}
use Rattle.std.specs.Int.{w16, w32, to_le_bytes, from_le_bytes}
use Rattle.pm_types.specs.declared.shape.Shape.{Shape}

-- the bytes of a shape
unfoldable pub shape_bytes : Shape → List ℕ
shape_bytes shape =
    to_le_bytes w32 shape.page_size ++ (to_le_bytes w16 shape.partitions ++ (to_le_bytes w16 shape.version
    ++ (to_le_bytes w32 shape.max_rows ++ to_le_bytes w32 shape.segment_bytes)))

-- the shape that these bytes would be
unfoldable pub named_shape : List ℕ → Shape
named_shape bytes = record {
  page_size = from_le_bytes w32 (slice_range bytes 0 4);
  partitions = from_le_bytes w16 (slice_range bytes 4 6);
  version = from_le_bytes w16 (slice_range bytes 6 8);
  max_rows = from_le_bytes w32 (slice_range bytes 8 12);
  segment_bytes = from_le_bytes w32 (slice_range bytes 12 16);
}
