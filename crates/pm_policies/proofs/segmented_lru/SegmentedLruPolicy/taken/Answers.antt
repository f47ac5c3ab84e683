use Rattle.std.proofs.Common.{length, sym, ap, subst, arith}
use Rattle.pm_policies.specs.Segments.{Halves}
use Rattle.pm_policies.proofs.Halves.{IsHalf, half_left}
use Rattle.pm_policies.proofs.segmented_lru.SegmentedLruPolicy.taken.Goals as goal

pub invariant_of-self : goal.invariant_of-self
invariant_of-self c =
    subst IsHalf (sym c.place.ensures)
    (half_left c.self.inside.segments c.args.frame _ (omega (arith, c.requires, ap (λ (v : Halves). length v.frames) c.self.view_is)) c.self.invariant)
