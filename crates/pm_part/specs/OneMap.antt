-- The map of a partition, whatever the order in which its rows are listed.
use Rattle.std.specs.Prelude.{◌≡◌, ◌≢◌, ℕ, List, Some, None, All, Any}
use Rattle.std.specs.FinMap as map
use Rattle.pm_model.specs.Eval.{cache_key}
use Rattle.pm_pages.specs.declared.row.Row.{Row}
use Rattle.pm_pages.specs.RowMaps.{map_of}

-- two lists have the same rows, each in its order, and maybe more than once
pub record HasSameRows (rows others : List Row) : Type 0 where
  pub all : All (λ row. Any (λ other. other ≡ row) others) rows
  pub only : All (λ other. Any (λ row. row ≡ other) rows) others

-- the map of the rows has each row's value at its key
abbrev pub HasEachRow : List Row → Type 0
HasEachRow rows = All (λ row. map.get (map_of rows) (cache_key row.cache row.key) ≡ Some row.value) rows

-- the map of the rows has no value at a key of which there is no row
abbrev pub HasNoOther : List Row → Type 0
HasNoOther rows = (cache : ℕ) (key : List ℕ) → All (λ row. row.cache ≡ cache → row.key ≢ key) rows
    → map.get (map_of rows) (cache_key cache key) ≡ None
