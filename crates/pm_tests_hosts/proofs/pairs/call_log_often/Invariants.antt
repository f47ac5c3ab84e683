-- Calls may be made on the log part, which is later than it was.
use Rattle.pm_disk.specs.States.{IsLaterState, IsUsable}
use Rattle.pm_tests_hosts.proofs.pairs.call_log_often.Given as goal

abbrev pub invariant-loop-call : goal.invariant-loop-call
invariant-loop-call g l = record {
  later : IsLaterState (g.L.Device.state l.initial.log) (g.L.Device.state l.log);
  usable : IsUsable (g.L.Device.state l.log);
}
