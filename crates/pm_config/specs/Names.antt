-- The names of the fields and of the kinds of replacement, as the text has them.
use Rattle.std.specs.Prelude.{ℕ, List, Option, Some, None, codes, if◌then◌else◌}
use Rattle.std.specs.Str.{bytes_eq}
use Rattle.pm_types.specs.declared.fault.Field.{Field}
use Rattle.pm_types.specs.declared.fault.Field.TheVariants.{Text, Unknown, PageSize, Partitions}
use Rattle.pm_types.specs.declared.fault.Field.TheVariants.{MaxRows, SegmentBytes, Workers, Frames}
use Rattle.pm_types.specs.declared.fault.Field.TheVariants.{BufferPages, CheckpointBytes, DirtyPercent}
use Rattle.pm_types.specs.declared.fault.Field.TheVariants.{Policy}
use Rattle.pm_config.specs.declared.config.Kind.{Kind}
use Rattle.pm_config.specs.declared.config.Kind.TheVariants.{Random, Segmented, Clock}

-- the name by which a refusal is printed, and the field's name in the text
abbrev pub name_of : Field → List ℕ
name_of Text = codes "text"
name_of Unknown = codes "unknown"
name_of PageSize = codes "page_size"
name_of Partitions = codes "partitions"
name_of MaxRows = codes "max_rows"
name_of SegmentBytes = codes "segment_bytes"
name_of Workers = codes "workers"
name_of Frames = codes "frames"
name_of BufferPages = codes "buffer_pages"
name_of CheckpointBytes = codes "checkpoint_bytes"
name_of DirtyPercent = codes "dirty_percent"
name_of Policy = codes "policy"

-- the field that has this name, one of ten
abbrev pub field_of : List ℕ → Option Field
field_of name =
    if bytes_eq name (codes "page_size") then Some PageSize
    else (if bytes_eq name (codes "partitions") then Some Partitions
    else (if bytes_eq name (codes "max_rows") then Some MaxRows
    else (if bytes_eq name (codes "segment_bytes") then Some SegmentBytes
    else (if bytes_eq name (codes "workers") then Some Workers
    else (if bytes_eq name (codes "frames") then Some Frames
    else (if bytes_eq name (codes "buffer_pages") then Some BufferPages
    else (if bytes_eq name (codes "checkpoint_bytes") then Some CheckpointBytes
    else (if bytes_eq name (codes "dirty_percent") then Some DirtyPercent
    else (if bytes_eq name (codes "policy") then Some Policy else None)))))))))

-- the kind of replacement that has this name
abbrev pub kind_of : List ℕ → Option Kind
kind_of name =
    if bytes_eq name (codes "random-lru") then Some Random
    else (if bytes_eq name (codes "segmented-lru") then Some Segmented
    else (if bytes_eq name (codes "clock") then Some Clock else None))
