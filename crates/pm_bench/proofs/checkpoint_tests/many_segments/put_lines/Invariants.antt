use Rattle.std.proofs.Common.{◌≤◌, length}
use Rattle.std.specs.List.{All}
use Rattle.pm_model.specs.Batches.{HasCache}
use Rattle.pm_bench.proofs.checkpoint_tests.many_segments.put_lines.Given as goal

-- a line for each row so far
abbrev pub invariant-rows : goal.invariant-rows
invariant-rows l = record { caches : All HasCache l.lines.items; few : length l.lines.items ≤ l.i }
