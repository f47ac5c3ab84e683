use Rattle.std.proofs.Common.{ℕ, ◌≤◌, ◌<◌}
use Rattle.pm_ptable.specs.Slots.{slot_at, HoldsOther}
use Rattle.pm_ptable.proofs.slots.seek.Given as goal

abbrev pub invariant-probes : goal.invariant-probes
invariant-probes l = (j : ℕ) → l.from ≤ j → j < l.at → HoldsOther l.page (slot_at l.slots j)
