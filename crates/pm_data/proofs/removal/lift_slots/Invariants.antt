use Rattle.pm_data.proofs.Lifting.{IsLifting}
use Rattle.pm_data.proofs.removal.lift_slots.Given as goal

abbrev pub invariant-slots : goal.invariant-slots
invariant-slots l = IsLifting l.fn.page l.page l.item l.at l.count
