use Rattle.std.proofs.Common.{length, ap, subst, ◌∙◌, arith}
use Rattle.pm_policies.specs.Stamps.{raised}
use Rattle.pm_policies.specs.Segments.{Halves, Protects}
use Rattle.pm_policies.proofs.Halves.{half_protects, length_protects}
use Rattle.pm_policies.proofs.segmented_lru.SegmentedLruPolicy.touched.Goals as goal

pub invariant_of-self : goal.invariant_of-self
invariant_of-self c =
    half_protects c.self.inside.segments c.protect.new.self c.args.frame c.saturating_add-tick.result
    (omega (arith, c.requires, ap (λ (v : Halves). length v.frames) c.self.view_is)) c.self.invariant c.protect.ensures

pub returns-clause-protected : goal.returns-clause-protected
returns-clause-protected c =
    subst (λ (v : Halves). Protects v.frames c.protect.new.self c.args.frame (raised v.tick)) c.self.view_is
    (subst (λ t. Protects c.self.inside.segments c.protect.new.self c.args.frame t) c.saturating_add-tick.ensures c.protect.ensures)

pub returns-clause-same_frames : goal.returns-clause-same_frames
returns-clause-same_frames c =
    length_protects c.self.inside.segments c.protect.new.self c.args.frame c.saturating_add-tick.result c.protect.ensures ∙ ap (λ (v : Halves). length v.frames) c.self.view_is
