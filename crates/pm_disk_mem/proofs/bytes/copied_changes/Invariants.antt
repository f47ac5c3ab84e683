use Rattle.std.proofs.Common.{◌≡◌, map, take}
use Rattle.pm_disk_mem.specs.Changes.{change_of}
use Rattle.pm_disk_mem.proofs.bytes.copied_changes.Given as goal

abbrev pub invariant-loop-change : goal.invariant-loop-change
invariant-loop-change l = map change_of l.copy.items ≡ map change_of (take l.change-index l.changes)
