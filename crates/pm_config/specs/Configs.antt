-- What a configuration's text says. A test that refuses it gives the refusal its name, and the
-- first test counts.
use Rattle.std.specs.Prelude.{ℕ, ◌*◌, List, Bool, true, ◌&&◌, nat_le, if◌then◌else◌, Option, Some, None}
use Rattle.std.specs.Prelude.{is_some, option_and_then, Result, Ok, Err}
use Rattle.std.specs.List.{list_all}
use Rattle.serde_json.specs.Data.{Data}
use Rattle.serde_json.specs.Find.{as_number, as_u64, as_str}
use Rattle.pm_types.specs.declared.fault.Field.{Field}
use Rattle.pm_types.specs.declared.fault.Field.TheVariants.{Text, Unknown, PageSize, Partitions}
use Rattle.pm_types.specs.declared.fault.Field.TheVariants.{MaxRows, SegmentBytes, Workers, Frames}
use Rattle.pm_types.specs.declared.fault.Field.TheVariants.{BufferPages, CheckpointBytes, DirtyPercent}
use Rattle.pm_types.specs.declared.fault.Field.TheVariants.{Policy}
use Rattle.pm_types.specs.declared.limits.TheConstants.{LAST_VERSION, PARTITIONS_MAX, ROWS_MAX}
use Rattle.pm_types.specs.declared.limits.TheConstants.{SEGMENT_BYTES_MIN, SEGMENT_BYTES_MAX}
use Rattle.pm_types.specs.declared.shape.Shape.{Shape}
use Rattle.pm_types.specs.PageSizes.{is_page_size}
use Rattle.pm_config.specs.declared.config.Config.{Config}
use Rattle.pm_config.specs.declared.config.Kind.{Kind}
use Rattle.pm_config.specs.declared.fault.ConfigFault.{ConfigFault}
use Rattle.pm_config.specs.declared.fault.ConfigFault.TheVariants.{Bad}
use Rattle.pm_config.specs.declared.limits.TheConstants.{PAGE_SIZE_DEFAULT, PARTITIONS_DEFAULT}
use Rattle.pm_config.specs.declared.limits.TheConstants.{MAX_ROWS_DEFAULT, SEGMENT_BYTES_DEFAULT}
use Rattle.pm_config.specs.declared.limits.TheConstants.{WORKERS_MAX, WORKERS_DEFAULT}
use Rattle.pm_config.specs.declared.limits.TheConstants.{FRAMES_PER_WORKER, FRAMES_MAX, FRAMES_DEFAULT}
use Rattle.pm_config.specs.declared.limits.TheConstants.{BUFFER_PAGES_PER_WORKER, BUFFER_PAGES_MAX}
use Rattle.pm_config.specs.declared.limits.TheConstants.{BUFFER_PAGES_DEFAULT, CHECKPOINT_BYTES_MIN}
use Rattle.pm_config.specs.declared.limits.TheConstants.{CHECKPOINT_BYTES_MAX, CHECKPOINT_BYTES_DEFAULT}
use Rattle.pm_config.specs.declared.limits.TheConstants.{DIRTY_PERCENT_MAX, DIRTY_PERCENT_DEFAULT}
use Rattle.pm_config.specs.declared.limits.TheConstants.{POLICY_DEFAULT}
use Rattle.pm_config.specs.Names.{name_of, field_of, kind_of}
use Rattle.pm_config.specs.Objects.{Member, object_of, last_of}

-- the value of each field, where the object has the field
abbrev pub Values : Type 0
Values = Field → Option Data

-- ---- one field

-- the whole number that a field says: its default where the field is absent, nothing where its
-- value is something else
abbrev pub whole_of : ℕ → Option Data → Option ℕ
whole_of default None = Some default
whole_of default (Some d) = option_and_then as_u64 (as_number d)

-- the kind of replacement that a field says
abbrev pub policy_of : Option Data → Option Kind
policy_of None = Some POLICY_DEFAULT
policy_of (Some d) = option_and_then kind_of (as_str d)

-- what a field says, where it passes a test; else it is refused by the field's name
abbrev pub tested : {A : Type 0} → Field → (A → Bool) → Option A → Result A ConfigFault
tested field test None = Err (Bad field)
tested field test (Some x) = if test x then Ok x else Err (Bad field)

abbrev pub is_within : ℕ → ℕ → ℕ → Bool
is_within least most n = nat_le least n && nat_le n most

-- a field whose value is a whole number from `least` to `most`
abbrev pub number_of : Field → ℕ → ℕ → ℕ → Values → Result ℕ ConfigFault
number_of field least most default values =
    tested field (is_within least most) (whole_of default (values field))

abbrev pub page_size_of : Values → Result ℕ ConfigFault
page_size_of values = tested PageSize is_page_size (whole_of PAGE_SIZE_DEFAULT (values PageSize))

-- ---- all fields, in the order of their tests

-- the next test, where the one before was passed
abbrev pub followed_by : {A B : Type 0} → Result A ConfigFault → (A → Result B ConfigFault)
    → Result B ConfigFault
followed_by (Ok x) next = next x
followed_by (Err fault) next = Err fault

abbrev pub shape_of : Values → Result Shape ConfigFault
shape_of values =
    followed_by (page_size_of values) (λ page_size.
    followed_by (number_of Partitions 1 PARTITIONS_MAX PARTITIONS_DEFAULT values) (λ partitions.
    followed_by (number_of MaxRows 1 ROWS_MAX MAX_ROWS_DEFAULT values) (λ max_rows.
    followed_by (number_of SegmentBytes SEGMENT_BYTES_MIN SEGMENT_BYTES_MAX SEGMENT_BYTES_DEFAULT values)
    (λ segment_bytes.
    Ok (record {
      page_size = page_size;
      partitions = partitions;
      version = LAST_VERSION;
      max_rows = max_rows;
      segment_bytes = segment_bytes;
    })))))

abbrev pub run_of : Shape → Values → Result Config ConfigFault
run_of shape values =
    followed_by (number_of Workers 1 WORKERS_MAX WORKERS_DEFAULT values) (λ workers.
    followed_by (number_of Frames (FRAMES_PER_WORKER * workers) FRAMES_MAX FRAMES_DEFAULT values) (λ frames.
    followed_by (number_of BufferPages
    (BUFFER_PAGES_PER_WORKER * workers) BUFFER_PAGES_MAX BUFFER_PAGES_DEFAULT values) (λ buffer_pages.
    followed_by (number_of CheckpointBytes CHECKPOINT_BYTES_MIN CHECKPOINT_BYTES_MAX CHECKPOINT_BYTES_DEFAULT values) (λ checkpoint_bytes.
    followed_by (number_of DirtyPercent 1 DIRTY_PERCENT_MAX DIRTY_PERCENT_DEFAULT values) (λ dirty_percent.
    followed_by (tested Policy (λ _. true) (policy_of (values Policy))) (λ policy.
    Ok (record {
      shape = shape;
      workers = workers;
      frames = frames;
      buffer_pages = buffer_pages;
      checkpoint_bytes = checkpoint_bytes;
      dirty_percent = dirty_percent;
      policy = policy;
    })))))))

abbrev pub config_by : Values → Result Config ConfigFault
config_by values = followed_by (shape_of values) (λ shape. run_of shape values)

-- each member has the name of a field
abbrev pub has_known_names : List Member → Bool
has_known_names members = list_all (λ (m : Member). is_some (field_of m.0)) members

-- what an object's members say; the last of equal names counts
abbrev pub config_in : Option (List Member) → Result Config ConfigFault
config_in None = Err (Bad Text)
config_in (Some members) =
    if has_known_names members then config_by (λ field. last_of (name_of field) members) else Err (Bad Unknown)

-- what a text without fields says
abbrev pub default_config : Config
default_config =
    record {
      shape = record {
        page_size = PAGE_SIZE_DEFAULT;
        partitions = PARTITIONS_DEFAULT;
        version = LAST_VERSION;
        max_rows = MAX_ROWS_DEFAULT;
        segment_bytes = SEGMENT_BYTES_DEFAULT;
      };
      workers = WORKERS_DEFAULT;
      frames = FRAMES_DEFAULT;
      buffer_pages = BUFFER_PAGES_DEFAULT;
      checkpoint_bytes = CHECKPOINT_BYTES_DEFAULT;
      dirty_percent = DIRTY_PERCENT_DEFAULT;
      policy = POLICY_DEFAULT;
    }

-- what the bytes of a configuration say
unfoldable pub config_of : List ℕ → Result Config ConfigFault
config_of bytes = config_in (object_of bytes)
