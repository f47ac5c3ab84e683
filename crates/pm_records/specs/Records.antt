-- A record of the log, and its bytes: a frame's payload. Numbers are little-endian.
--
--   kind          field                          size
--   1 logical     operation, 1 put or 2 remove      1
--                 cache, 0 to 15                    1
--                 length of the key, 1 to 64        1
--                 length of the value, at most 900  4    of a remove 0
--                 key, value
--   2 snapshot    name of the page                  8
--                 the page, of a page size
--   3 delta       name of the page                  8
--                 number of ranges, 1 to 8          1
--                 of each range: start, length      2, 2
--                 and its bytes
--   4 CP_BEGIN    number of the checkpoint, from 1  8
--                 replay place: segment, offset     8, 4
--   5 RESTART     page size                         4
--                 partitions, version               2, 2
--                 most rows of a partition          4
--                 most bytes of a segment           4
--   6 SEAL        nothing
--
-- Nothing follows the last field.
use Rattle.std.specs.Prelude.{◌≡◌, ℕ, ◌+◌, ◌<◌, ◌⊎◌, Bool, true, ◌&&◌, ◌||◌, nat_eq, nat_lt, nat_le}
use Rattle.std.specs.Prelude.{◌==◌, if◌then◌else◌, List, [], ◌∷◌, ◌++◌, length, drop, slice_index}
use Rattle.std.specs.Prelude.{slice_range, Option, Some, None}
use Rattle.std.specs.Cmp.Lexicographic.{pointwise}
use Rattle.std.specs.Int.{w32, w64, to_le_bytes, from_le_bytes}
use Rattle.pm_types.specs.declared.limits.TheConstants.{CACHES, KEY_MAX, VALUE_MAX}
use Rattle.pm_types.specs.declared.page_id.PageId.{PageId}
use Rattle.pm_types.specs.declared.place.Place.{Place}
use Rattle.pm_types.specs.declared.shape.Shape.{Shape}
use Rattle.pm_types.specs.Keys.{HasKeyLength, HasValueLength}
use Rattle.pm_frame.specs.declared.kinds.TheConstants.{LOGICAL, SNAPSHOT, DELTA, CP_BEGIN, RESTART, SEAL}
use Rattle.pm_records.specs.declared.limits.TheConstants.{PUT, REMOVE, LOGICAL_HEAD_LEN, PAGE_NAME_LEN}
use Rattle.pm_records.specs.PageRecords.{IsSnapshot, IsPageDelta, IsCpBegin, is_snapshot, is_page_delta}
use Rattle.pm_records.specs.PageRecords.{is_cp_begin}
use Rattle.pm_types.specs.Shapes.{IsShape, is_shape}
use Rattle.pm_records.specs.Shapes.{shape_bytes, named_shape}

-- a record, without where it lies in memory
pub data Record : Type 0 where
  Logical : (op cache : ℕ) (key value : List ℕ) → Record
  Snapshot : (page : PageId) (bytes : List ℕ) → Record
  Delta : (page : PageId) (ranges : List ℕ) → Record
  CpBegin : (number : ℕ) (replay : Place) → Record
  Restart : (shape : Shape) → Record
  Seal : Record

-- the kind of its frame
abbrev pub kind_of : Record → ℕ
kind_of (Logical op cache key value) = LOGICAL
kind_of (Snapshot page bytes) = SNAPSHOT
kind_of (Delta page ranges) = DELTA
kind_of (CpBegin number replay) = CP_BEGIN
kind_of (Restart shape) = RESTART
kind_of Seal = SEAL

-- what stands in a logical record before its key
abbrev pub logical_head : ℕ → ℕ → ℕ → ℕ → List ℕ
logical_head op cache key_len value_len = op ∷ cache ∷ key_len ∷ to_le_bytes w32 value_len

-- the bytes of its payload
unfoldable pub payload_of : Record → List ℕ
payload_of (Logical op cache key value) = logical_head op cache (length key) (length value) ++ (key ++ value)
payload_of (Snapshot page bytes) = to_le_bytes w64 page.0 ++ bytes
payload_of (Delta page ranges) = to_le_bytes w64 page.0 ++ ranges
payload_of (CpBegin number replay) =
    to_le_bytes w64 number ++ (to_le_bytes w64 replay.seg ++ to_le_bytes w32 replay.off)
payload_of (Restart shape) = shape_bytes shape
payload_of Seal = []

-- the change of a map is of a cache's key, and only a put has a value
pub record IsLogical (op cache : ℕ) (key value : List ℕ) : Type 0 where
  pub known : (op ≡ PUT) ⊎ ((op ≡ REMOVE) × (value ≡ []))
  pub numbered : cache < CACHES
  pub keyed : HasKeyLength key
  pub valued : HasValueLength value

-- the record is in the grammar of its kind
abbrev pub IsRecord : Record → Type 0
IsRecord (Logical op cache key value) = IsLogical op cache key value
IsRecord (Snapshot page bytes) = IsSnapshot page bytes
IsRecord (Delta page ranges) = IsPageDelta page ranges
IsRecord (CpBegin number replay) = IsCpBegin number replay
IsRecord (Restart shape) = IsShape shape
IsRecord Seal = Unit {0}

-- the same as a test
abbrev pub is_logical : ℕ → ℕ → List ℕ → List ℕ → Bool
is_logical op cache key value =
    (op == PUT || (op == REMOVE && length value == 0)) && nat_lt cache CACHES
    && nat_le 1 (length key) && nat_le (length key) KEY_MAX && nat_le (length value) VALUE_MAX

abbrev pub is_record : Record → Bool
is_record (Logical op cache key value) = is_logical op cache key value
is_record (Snapshot page bytes) = is_snapshot page bytes
is_record (Delta page ranges) = is_page_delta page ranges
is_record (CpBegin number replay) = is_cp_begin number replay
is_record (Restart shape) = is_shape shape
is_record Seal = true

-- the logical record that a payload would be, by the lengths that it names
unfoldable pub named_logical : List ℕ → Record
named_logical payload =
    let key_end : ℕ = LOGICAL_HEAD_LEN + slice_index payload 2 in
    Logical (slice_index payload 0) (slice_index payload 1) (slice_range payload LOGICAL_HEAD_LEN key_end)
    (drop key_end payload)

-- the page that a payload begins with
abbrev pub named_page : List ℕ → PageId
named_page payload = record { 0 = from_le_bytes w64 (slice_range payload 0 PAGE_NAME_LEN) }

-- the CP_BEGIN that a payload would be
unfoldable pub named_cp_begin : List ℕ → Record
named_cp_begin payload =
    CpBegin (from_le_bytes w64 (slice_range payload 0 8)) (record {
      seg = from_le_bytes w64 (slice_range payload 8 16);
      off = from_le_bytes w32 (slice_range payload 16 20);
    })

-- the record that a payload of this kind would be; a SEAL where there is no such kind
unfoldable pub named_record : ℕ → List ℕ → Record
named_record kind payload =
    if kind == LOGICAL then named_logical payload
    else if kind == SNAPSHOT then Snapshot (named_page payload) (drop PAGE_NAME_LEN payload)
    else if kind == DELTA then Delta (named_page payload) (drop PAGE_NAME_LEN payload)
    else if kind == CP_BEGIN then named_cp_begin payload
    else if kind == RESTART then Restart (named_shape payload)
    else Seal

-- the record that the payload is
unfoldable pub record_of : ℕ → List ℕ → Option Record
record_of kind payload =
    let found = named_record kind payload in
    if kind == kind_of found && is_record found && pointwise nat_eq payload
    (payload_of found) then Some found else None
