use Rattle.std.proofs.Common.{◌≤◌, length}
use Rattle.std.specs.List.{All}
use Rattle.pm_model.specs.Batches.{HasCache}
use Rattle.pm_bench.proofs.checkpoint_tests.put_records.put_lines.Given as goal

-- a line for each put so far
abbrev pub invariant-puts : goal.invariant-puts
invariant-puts l = record { caches : All HasCache l.lines.items; few : length l.lines.items ≤ l.put-index }
