use Rattle.std.proofs.Common.{arith}
use Rattle.pm_policies.proofs.Sides.{segments_fresh}
use Rattle.pm_policies.proofs.segments.Segments.with_frames.Goals as goal

pub invariant_of-result : goal.invariant_of-result
invariant_of-result c =
    rw c.in_ok-frames.ensures (segments_fresh c.args.count _ _ (omega arith) c.in_ok-probationary.ensures.games c.in_ok-probationary.ensures.all c.in_ok-protected.ensures)
