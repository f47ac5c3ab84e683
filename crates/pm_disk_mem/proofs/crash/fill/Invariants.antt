use Rattle.std.proofs.Common.{◌≡◌, map, drop}
use Rattle.pm_disk_mem.specs.Changes.{bytes_in, change_of}
use Rattle.pm_disk_mem.specs.Picks.{filled}
use Rattle.pm_disk_mem.proofs.crash.fill.Given as goal

abbrev pub invariant-loop-change : goal.invariant-loop-change
invariant-loop-change l = filled l.byte (map change_of (drop l.change-index l.changes)) (bytes_in l.held) ≡ filled l.byte (map change_of l.changes) (bytes_in l.initial.held)
