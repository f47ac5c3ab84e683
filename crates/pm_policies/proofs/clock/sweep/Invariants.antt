use Rattle.std.proofs.Common.{◌≡◌, ◌<◌, length}
use Rattle.pm_policies.specs.Dials.{place_after, HasPassed}
use Rattle.pm_policies.proofs.clock.sweep.Given as goal

abbrev pub invariant-passes : goal.invariant-passes
invariant-passes l = record {
  passed : HasPassed l.fn.marks l.marks l.hand l.counter;
  stands : l.at ≡ place_after l.fn.marks l.hand l.counter;
  within : l.at < length l.marks;
}
