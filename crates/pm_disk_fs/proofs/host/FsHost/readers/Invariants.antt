use Rattle.std.proofs.Common.{◌≡◌, vec_len}
use Rattle.std.specs.List.{All}
use Rattle.pm_disk.specs.Lending.{reader_lent}
use Rattle.pm_disk_fs.specs.Host.{state_of}
use Rattle.pm_disk_fs.specs.Parts.{state_of_reader}
use Rattle.pm_disk_fs.proofs.host.FsHost.readers.Given as goal

abbrev pub invariant-loop : goal.invariant-loop
invariant-loop g l = record {
  many : vec_len l.readers ≡ l.counter;
  each : All (λ reader. state_of_reader reader ≡ reader_lent l.due.items (state_of l.self)) l.readers.items;
}
