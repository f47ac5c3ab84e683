use Rattle.std.proofs.Common.{drop}
use Rattle.pm_data.specs.Following.{AreConsecutive}
use Rattle.pm_data.proofs.checks.are_consecutive.Given as goal

abbrev pub invariant-each : goal.invariant-each
invariant-each l = record {
  left : AreConsecutive l.low l.end l.slots → AreConsecutive l.next l.end (drop l.slot-index l.slots);
  whole : AreConsecutive l.next l.end (drop l.slot-index l.slots) → AreConsecutive l.low l.end l.slots;
}
