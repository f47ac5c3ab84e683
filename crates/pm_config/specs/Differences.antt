-- How two shapes differ.
use Rattle.std.specs.Prelude.{◌≡◌, ◌==◌, not, Option, Some, None, if◌then◌else◌}
use Rattle.pm_types.specs.declared.fault.Field.{Field}
use Rattle.pm_types.specs.declared.fault.Field.TheVariants.{PageSize, Partitions, MaxRows, SegmentBytes}
use Rattle.pm_types.specs.declared.shape.Shape.{Shape}

-- the four numbers of a configuration's shape are equal
pub record SameNumbers (store wanted : Shape) : Type 0 where
  pub page_size : store.page_size ≡ wanted.page_size
  pub partitions : store.partitions ≡ wanted.partitions
  pub max_rows : store.max_rows ≡ wanted.max_rows
  pub segment_bytes : store.segment_bytes ≡ wanted.segment_bytes

-- the first field, in the configuration's order, whose numbers differ
abbrev pub first_difference_of : Shape → Shape → Option Field
first_difference_of store wanted =
    if not (store.page_size == wanted.page_size) then Some PageSize
    else (if not (store.partitions == wanted.partitions) then Some Partitions
    else (if not (store.max_rows == wanted.max_rows) then Some MaxRows
    else (if not (store.segment_bytes == wanted.segment_bytes) then Some SegmentBytes else None)))
