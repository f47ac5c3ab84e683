use Rattle.std.proofs.Common.{◌≤◌}
use Rattle.pm_disk_fs.proofs.paths.make_missing.Given as goal

abbrev pub invariant-loop-part : goal.invariant-loop-part
invariant-loop-part g l = record { counted : l.initial.made ≤ l.made }
