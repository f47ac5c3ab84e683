use Rattle.std.specs.Prelude.{◌≤◌}
use Rattle.std.specs.List.{AllAdjacentBelow}
use Rattle.pm_data.specs.declared.slots.Slot.{Slot}
use Rattle.pm_data.proofs.checks.rises.Given as goal

abbrev pub invariant-pairs : goal.invariant-pairs
invariant-pairs l = AllAdjacentBelow (λ (x y : Slot). x.start ≤ y.start) l.slots l.i
