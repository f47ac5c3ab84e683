-- Calls may be made on the host.
use Rattle.pm_disk.specs.States.{IsUsable}
use Rattle.pm_tests_hosts.proofs.lasting.make_calls.Given as goal

abbrev pub invariant-loop-number : goal.invariant-loop-number
invariant-loop-number g l = IsUsable (g.H.Device.state l.host)
