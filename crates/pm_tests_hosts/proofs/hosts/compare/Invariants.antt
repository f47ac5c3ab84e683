-- Calls may be made on both.
use Rattle.pm_disk.specs.States.{IsUsable}
use Rattle.pm_disk_mem.specs.Hosts.{state_of}
use Rattle.pm_tests_hosts.proofs.hosts.compare.Given as goal

abbrev pub invariant-calls : goal.invariant-calls
invariant-calls g l = record { memory : IsUsable (state_of l.memory); files : IsUsable (g.F.Device.state l.files) }
