use Rattle.std.proofs.Common.{◌≡◌, ◌++◌}
use Rattle.pm_disk_mem.proofs.Picking.{picked, CouldEach}
use Rattle.pm_disk_mem.proofs.family.Family.image.Given as goal

abbrev pub invariant-loop-number : goal.invariant-loop-number
invariant-loop-number l = record {
  picked : l.contents ++ picked l.rest l.number-iterator ≡ picked l.fn.pick l.initial.number-iterator;
  each : CouldEach l.number-iterator → CouldEach l.initial.number-iterator;
}
