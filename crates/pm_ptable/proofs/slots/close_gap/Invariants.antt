use Rattle.std.proofs.Common.{◌≡◌}
use Rattle.pm_ptable.specs.Slots.{map_of, filled}
use Rattle.pm_ptable.proofs.Gaps.{IsClosing}
use Rattle.pm_ptable.proofs.slots.close_gap.Given as goal

abbrev pub invariant-closes : goal.invariant-closes
invariant-closes l = record {
  closing : IsClosing l.homes l.slots l.gap l.at;
  entries : map_of l.slots ≡ map_of l.fn.slots;
  filled : filled l.slots ≡ filled l.fn.slots;
}
