use Rattle.std.proofs.Common.{◌≡◌, ℕ, ◌+◌, ◌<◌}
use Rattle.std.specs.BTreeMap.{keys}
use Rattle.pm_model.specs.Counts.{count_of}
use Rattle.pm_model.specs.Eval.{rows_among}
use Rattle.pm_model.proofs.row_counts.RowCounts.of.Given as goal

-- what is counted so far and what is left are the rows of each partition
abbrev pub invariant-each : goal.invariant-each
invariant-each l = record {
  partitions : l.counts.partitions ≡ l.partitions;
  each : (part : ℕ) → part < l.partitions → count_of l.counts part + rows_among l.partitions part l.at-iterator ≡ rows_among l.partitions part (keys l.pairs);
}
