use Rattle.std.proofs.Common.{◌≡◌, ◌≤◌, ◌+◌, ◌++◌, length}
use Rattle.pm_disk_fs.specs.declared.open_files.TheConstants.{OPEN_MAX}
use Rattle.pm_disk_fs.proofs.open_files.OpenFiles.keep_all.Given as goal

abbrev pub invariant-loop-file : goal.invariant-loop-file
invariant-loop-file g l = length l.initial.self.files.items + length l.yielded ≤ OPEN_MAX → l.self.files.items ≡ l.initial.self.files.items ++ l.yielded
