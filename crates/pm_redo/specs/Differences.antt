-- How two shapes differ.
use Rattle.std.specs.Prelude.{◌==◌, not, Option, Some, None, if◌then◌else◌}
use Rattle.pm_types.specs.declared.fault.Field.{Field}
use Rattle.pm_types.specs.declared.fault.Field.TheVariants.{PageSize, Partitions, MaxRows, SegmentBytes}
use Rattle.pm_types.specs.declared.shape.Shape.{Shape}

-- the first field, in the configuration's order, whose numbers differ; versions are not compared
abbrev pub first_difference_of : Shape → Shape → Option Field
first_difference_of store wanted =
    if not (store.page_size == wanted.page_size) then Some PageSize
    else (if not (store.partitions == wanted.partitions) then Some Partitions
    else (if not (store.max_rows == wanted.max_rows) then Some MaxRows
    else (if not (store.segment_bytes == wanted.segment_bytes) then Some SegmentBytes else None)))

-- the same of a store that may have no shape yet, in which none differs
abbrev pub difference_from : Option Shape → Shape → Option Field
difference_from None wanted = None
difference_from (Some store) wanted = first_difference_of store wanted
