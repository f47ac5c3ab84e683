use Rattle.std.proofs.Common.{sym, ap, subst, ◌∙◌, false, arith}
use Rattle.pm_policies.specs.Segments.{IsOldest}
use Rattle.pm_policies.specs.Tournaments.{node_at}
use Rattle.pm_policies.proofs.Sides.{HasOne, one_left, root_is_some, root_is_oldest}
use Rattle.pm_policies.proofs.segments.Segments.oldest_probationary.Goals as goal

pub unreachable-requires : goal.unreachable-requires
unreachable-requires c =
    let frames = c.self.inside.frames.items in
    let at_root = ap (λ ns. node_at ns 1) (sym c.deref.ensures.value) in
    let one : HasOne frames false = subst (λ fs. HasOne fs false) (sym c.self.view_is) (one_left c.args.self.now c.requires) in
    root_is_some frames false c.self.inside.probationary.items c.self.invariant.probationary one.0 one.1 one.2 (at_root ∙ sym c.in-None.ensures)

pub returns : goal.returns
returns c =
    let frames = c.self.inside.frames.items in
    let at_root = ap (λ ns. node_at ns 1) (sym c.deref.ensures.value) in
    let one : HasOne frames false = subst (λ fs. HasOne fs false) (sym c.self.view_is) (one_left c.args.self.now c.requires) in
    subst (λ fs. IsOldest fs false c.in-Some.contender.frame) c.self.view_is
    (root_is_oldest frames false c.self.inside.probationary.items c.self.invariant.probationary c.in-Some.contender (omega (arith, one.1)) (at_root ∙ sym c.in-Some.ensures))
