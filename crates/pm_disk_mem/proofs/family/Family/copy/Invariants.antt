use Rattle.std.proofs.Common.{◌≡◌, ◌++◌}
use Rattle.pm_disk_mem.specs.Disks.{seen}
use Rattle.pm_disk_mem.proofs.family.Family.copy.Given as goal

abbrev pub invariant-loop-number : goal.invariant-loop-number
invariant-loop-number l = l.copy.files.entries ++ seen (λ t. t) l.number-iterator ≡ seen (λ t. t) l.initial.number-iterator
