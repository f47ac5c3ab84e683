-- Runs of calls between which no folder is bound.
use Rattle.std.proofs.Common.{Result, ◌∙◌, subst, arith}
use Rattle.std.specs.Prelude.{IfErr}
use Rattle.pm_types.specs.declared.fault.StoreFault.{StoreFault}
use Rattle.pm_disk.specs.States.{DeviceState, IsLaterState}
use Rattle.pm_engine.specs.Batches.{HasPlainFault, IsPlainFault}
use Rattle.pm_engine.specs.FrameBatches.{HasFrameFault}

-- one call more
pub plain_later : {T : Type 0} (old mid new : DeviceState) (result : Result T StoreFault) → IsLaterState old mid → HasPlainFault mid new result → IsLaterState old new
plain_later old mid new result so_far cause = record {
  later = omega (arith, so_far.later, cause.later);
  access = cause.access ∙ so_far.access;
  usable = λ usable. cause.usable (so_far.usable usable);
}

-- the same of a call that may find a bad page
pub frame_later : {T : Type 0} (old mid new : DeviceState) (result : Result T StoreFault) → IsLaterState old mid → HasFrameFault mid new result → IsLaterState old new
frame_later old mid new result so_far cause = record {
  later = omega (arith, so_far.later, cause.later.later);
  access = cause.later.access ∙ so_far.access;
  usable = λ usable. cause.later.usable (so_far.usable usable);
}

-- a call that finds no bad page
pub plain_frame : {T : Type 0} (before now : DeviceState) (result : Result T StoreFault) → HasPlainFault before now result → HasFrameFault before now result
plain_frame {T = T} before now result plain = record {
  later = record { later = plain.later; access = plain.access; usable = plain.usable };
  failed = plain.failed;
  no_record = λ at is. subst (λ (r : Result T StoreFault). IfErr r IsPlainFault) is plain.plain;
}
