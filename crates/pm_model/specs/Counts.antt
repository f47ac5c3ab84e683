-- The rows of each partition, counted.
use Rattle.std.specs.Prelude.{◌≡◌, ℕ, ◌+◌, ◌<◌, ◌==◌, cond, List, slice_index, Option, None, Some}
use Rattle.pm_model.specs.declared.cache_key.CacheKey.{CacheKey}
use Rattle.pm_model.specs.declared.row_counts.RowCounts.{RowCounts}
use Rattle.pm_model.specs.Eval.{rows_among}
use Rattle.pm_model.specs.Partitions.{ArePartitions}

-- how many rows are counted of a partition
abbrev pub count_of : RowCounts → ℕ → ℕ
count_of counts part = slice_index counts.rows part

-- the counts are those of these keys
pub record AreCountsOf (counts : RowCounts) (keys : List CacheKey) : Type 0 where
  pub partitions : ArePartitions counts.partitions
  pub each : (part : ℕ) → part < counts.partitions
      → count_of counts part ≡ rows_among counts.partitions part keys

-- where rows are counted, the counts are those of these keys
abbrev pub AreKept : Option RowCounts → List CacheKey → Type 0
AreKept None keys = Unit {0}
AreKept (Some counts) keys = AreCountsOf counts keys

-- one at the partition, and nothing at others
abbrev pub one_at : ℕ → ℕ → ℕ
one_at of part = cond (of == part) 1 0

-- counts with one row more of this partition
pub record HasOneMore (of : ℕ) (fewer more : RowCounts) : Type 0 where
  pub partitions : more.partitions ≡ fewer.partitions
  pub each : (part : ℕ) → count_of more part ≡ count_of fewer part + one_at of part
