use Rattle.pm_disk.specs.States.{IsUsable}
use Rattle.pm_disk_mem.specs.Hosts.{state_of, world_of}
use Rattle.pm_segments.specs.Ends.{EndsThere}
use Rattle.pm_tests_logs.proofs.logs.append_all.Given as goal

abbrev pub invariant-records : goal.invariant-records
invariant-records l = record { end : EndsThere l.log (world_of l.host); usable : IsUsable (state_of l.host) }
