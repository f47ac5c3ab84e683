use Rattle.std.proofs.Common.{◌≡◌, ◌-◌, map, drop}
use Rattle.pm_disk_mem.specs.Changes.{bytes_in, change_of}
use Rattle.pm_disk_mem.specs.Picks.{laid, written}
use Rattle.pm_disk_mem.proofs.crash.lay.Given as goal

abbrev pub invariant-loop-change : goal.invariant-loop-change
invariant-loop-change l = record {
  laid : laid l.rest (map change_of (drop l.change-index l.changes)) (bytes_in l.held) ≡ laid l.count (map change_of l.changes) (bytes_in l.initial.held);
  rest : l.rest - written (map change_of (drop l.change-index l.changes)) ≡ l.count - written (map change_of l.changes);
}
