use Rattle.std.proofs.Common.{length, ap, arith}
use Rattle.pm_policies.specs.Segments.{Halves}
use Rattle.pm_policies.proofs.segmented_lru.SegmentedLruPolicy.pick.Goals as goal

pub oldest_probationary-frame-requires : goal.oldest_probationary-frame-requires
oldest_probationary-frame-requires c = omega (arith, c.requires, c.self.invariant, ap (λ (v : Halves). length v.frames) c.self.view_is)
