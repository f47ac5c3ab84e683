-- The map that rows make.
use Rattle.std.specs.Prelude.{ℕ, List, map}
use Rattle.std.specs.FinMap.{from_entries}
use Rattle.pm_model.specs.declared.cache_key.CacheKey.{CacheKey}
use Rattle.pm_model.specs.Eval.{Pairs, cache_key, cache_key_cmp}
use Rattle.pm_pages.specs.declared.row.Row.{Row}

-- a row as an entry of the map
abbrev pub entry_of : Row → CacheKey × List ℕ
entry_of row = (cache_key row.cache row.key, row.value)

-- the map of these rows; of rows with one key the first counts
unfoldable pub map_of : List Row → Pairs
map_of rows = from_entries {R = cache_key_cmp} (map entry_of rows)
