-- Calls may be made on the host.
use Rattle.pm_disk.specs.States.{IsUsable}
use Rattle.pm_tests_hosts.proofs.threads.rounds.Given as goal

abbrev pub invariant-loop-index : goal.invariant-loop-index
invariant-loop-index g l = IsUsable (g.H.Device.state l.host)
