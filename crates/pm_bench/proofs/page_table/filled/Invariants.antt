use Rattle.std.proofs.Common.{◌+◌, ◌≤◌}
use Rattle.pm_ptable.specs.declared.table.TheConstants.{FRAMES_MAX}
use Rattle.pm_bench.proofs.page_table.filled.Given as goal

abbrev pub invariant-frames : goal.invariant-frames
invariant-frames l = FRAMES_MAX ≤ l.table.spare + l.frame
