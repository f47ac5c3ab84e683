-- The bytes of a row.
use Rattle.std.specs.Prelude.{◌≡◌, ℕ, List}
use Rattle.pm_data.specs.Rows.{row_cache, row_key, row_value, IsRow}

-- these bytes are the row of a key of a cache with its value
pub record IsRowOf (cache : ℕ) (key value row : List ℕ) : Type 0 where
  pub is_row : IsRow row
  pub cache_is : row_cache row ≡ cache
  pub key_is : row_key row ≡ key
  pub value_is : row_value row ≡ value
