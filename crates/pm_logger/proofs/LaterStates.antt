-- Calls on the log part, between which no folder is bound.
use Rattle.std.proofs.Common.{Result, ◌∙◌, refl, arith}
use Rattle.pm_disk.specs.States.{DeviceState, HasCause, IsLaterState}

-- before the first call
pub same_state : {state : DeviceState} → IsLaterState state state
same_state = record { later = omega arith; access = refl; usable = λ usable. usable }

-- one call more
pub later_state : {T E : Type 0} {old mid new : DeviceState} {result : Result T E} → IsLaterState old mid → HasCause mid new result → IsLaterState old new
later_state so_far cause = record {
  later = omega (arith, so_far.later, cause.later);
  access = cause.access ∙ so_far.access;
  usable = λ usable. cause.usable (so_far.usable usable);
}
