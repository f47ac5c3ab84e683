use Rattle.std.proofs.Common.{◌≡◌, vec_len}
use Rattle.std.specs.List.{All}
use Rattle.pm_disk_mem.specs.Lent.{IsReader}
use Rattle.pm_disk_mem.proofs.host.MemHost.readers.Given as goal

abbrev pub invariant-loop : goal.invariant-loop
invariant-loop l = record {
  many : vec_len l.readers ≡ l.counter;
  each : All (λ reader. IsReader l.self l.due.items reader) l.readers.items;
}
