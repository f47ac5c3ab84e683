-- The trace is as it was read.
use Rattle.std.proofs.Common.{◌≡◌}
use Rattle.pm_tests_hosts.proofs.hosts.look_at_forces.Given as goal

abbrev pub invariant-loop-name : goal.invariant-loop-name
invariant-loop-name g l = l.trace ≡ l.initial.trace
