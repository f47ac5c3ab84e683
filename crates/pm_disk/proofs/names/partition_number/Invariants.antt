use Rattle.std.proofs.Common.{◌≡◌, ◌<◌, ℕ}
use Rattle.pm_disk.specs.Names.{partition_name}
use Rattle.pm_disk.proofs.names.partition_number.Given as goal

abbrev pub invariant-loop-part : goal.invariant-loop-part
invariant-loop-part l = (n : ℕ) → n < l.part → l.name ≡ partition_name n → ⊥
