-- A row: a key of one cache, with its value.
--
--   offset  size  field
--        0     1  the cache, below 16
--        1     1  key length k, 1 to 64
--        2     2  value length v, at most 900
--        4     k  the key
--    4 + k     v  the value
use Rattle.std.specs.Prelude.{◌≡◌, ℕ, ◌+◌, ◌<◌, ◌≤◌, List, length, slice_index}
use Rattle.pm_types.specs.declared.limits.TheConstants.{KEY_MAX, VALUE_MAX}
use Rattle.pm_types.specs.declared.limits.TheConstants.{CACHES}
use Rattle.pm_data.specs.declared.layout.TheConstants.{ROW_HEAD_LEN}
use Rattle.pm_types.specs.Fields.{bytes_at, u16_at}

-- the cache of a row
abbrev pub row_cache : List ℕ → ℕ
row_cache row = slice_index row 0

-- how long the key of a row is
abbrev pub row_key_len : List ℕ → ℕ
row_key_len row = slice_index row 1

-- how long the value of a row is
abbrev pub row_value_len : List ℕ → ℕ
row_value_len row = u16_at row 2

-- the key of a row
abbrev pub row_key : List ℕ → List ℕ
row_key row = bytes_at row ROW_HEAD_LEN (row_key_len row)

-- the value of a row
abbrev pub row_value : List ℕ → List ℕ
row_value row = bytes_at row (ROW_HEAD_LEN + row_key_len row) (row_value_len row)

-- these bytes are a row
pub record IsRow (row : List ℕ) : Type 0 where
  pub cache : row_cache row < CACHES
  pub some_key : 1 ≤ row_key_len row
  pub short_key : row_key_len row ≤ KEY_MAX
  pub short_value : row_value_len row ≤ VALUE_MAX
  pub exact : length row ≡ ROW_HEAD_LEN + row_key_len row + row_value_len row
