use Rattle.std.proofs.Common.{refl, arith}
use Rattle.std.proofs.lemmas.List.Sorted.{IsNonDecreasingBy-from_all_adjacent}
use Rattle.pm_data.specs.declared.slots.Slot.{Slot}
use Rattle.pm_data.proofs.checks.rises.Goals as goal

pub returns : goal.returns
returns c = (
  λ _. IsNonDecreasingBy-from_all_adjacent (λ (s : Slot). s.start) c.args.slots.now (λ k d lt. c.pairs.invariant k d (omega (arith, lt))),
  λ _. refl,
)
