-- The shapes that a store may have.
use Rattle.std.specs.Prelude.{◌≤◌, Bool, ◌&&◌, nat_le}
use Rattle.pm_types.specs.declared.limits.TheConstants.{LAST_VERSION, PARTITIONS_MAX, ROWS_MAX}
use Rattle.pm_types.specs.declared.limits.TheConstants.{SEGMENT_BYTES_MIN, SEGMENT_BYTES_MAX}
use Rattle.pm_types.specs.declared.shape.Shape.{Shape}
use Rattle.pm_types.specs.PageSizes.{IsPageSize, is_page_size}

-- each number of the shape is within its limits
pub record IsShape (shape : Shape) : Type 0 where
  pub page_size : IsPageSize shape.page_size
  pub partitions_from : 1 ≤ shape.partitions
  pub partitions_to : shape.partitions ≤ PARTITIONS_MAX
  pub version_from : 1 ≤ shape.version
  pub version_to : shape.version ≤ LAST_VERSION
  pub max_rows_from : 1 ≤ shape.max_rows
  pub max_rows_to : shape.max_rows ≤ ROWS_MAX
  pub segment_bytes_from : SEGMENT_BYTES_MIN ≤ shape.segment_bytes
  pub segment_bytes_to : shape.segment_bytes ≤ SEGMENT_BYTES_MAX

-- the same as a test
abbrev pub is_shape : Shape → Bool
is_shape shape =
    is_page_size shape.page_size && nat_le 1 shape.partitions && nat_le shape.partitions PARTITIONS_MAX && nat_le 1 shape.version
    && nat_le shape.version LAST_VERSION && nat_le 1 shape.max_rows && nat_le shape.max_rows ROWS_MAX
    && nat_le SEGMENT_BYTES_MIN shape.segment_bytes && nat_le shape.segment_bytes SEGMENT_BYTES_MAX
