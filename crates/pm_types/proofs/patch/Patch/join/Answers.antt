use Rattle.std.proofs.Common.{◌⊎◌, IsTrue, ap, take, sym, subst, refl, arith, ◌∙◌, inl, inr}
use Rattle.pm_types.specs.Spans.{Covers, IsPatch}
use Rattle.pm_types.proofs.Coverages.{settled_covers, becomes_whole, covers_within, covers_spans}
use Rattle.pm_types.proofs.patch.Patch.join.Goals as goal
use Rattle.pm_types.proofs.patch.Patch.join.Goals.{then-other-via-then-other, then-other-via-else-other+then-self}

pub returns-then-other : goal.returns-then-other
returns-then-other c =
    let either = elim c.then-other.branch as (λ _. IsTrue c.args.self.now.whole ⊎ IsTrue c.args.other.now.whole) [
      | then-other-via-then-other w ↦ inr (sym (ap (λ p. p.whole) c.other.view_is) ∙ w.if-other.true)
      | then-other-via-else-other+then-self w ↦ inl (sym (ap (λ p. p.whole) c.self.view_is) ∙ w.if-self.true)
    ] in
    becomes_whole c.args.self.now _ c.args.other.now (subst IsPatch c.self.view_is c.self.invariant.1) (subst IsPatch c.other.view_is c.other.invariant.1) either refl (ap (λ p. p.page_size) c.self.view_is) c.requires

pub returns : goal.returns
returns c =
    let before = ap (λ n. take n c.with_room-spans.result) c.self.invariant.0 ∙ c.with_room-spans.ensures in
    settled_covers _ _ _ _ _ _ _ _ c.self.view_is (sym c.self-2.view_is) c.self.invariant.1 c.if-self.false before c.add_spans-count.ensures.lists
    (λ k h. subst (λ p. Covers p k) c.other.view_is (inr h))
    (λ k h. covers_spans _ k c.if-other.false (subst (λ p. Covers p k) (sym c.other.view_is) h))
    (λ k h. let lt = covers_within c.args.other.now k (subst IsPatch c.other.view_is c.other.invariant.1) h in omega (arith, lt, c.requires, ap (λ p. p.page_size) c.self.view_is)) c.settled.ensures.size c.settled.ensures.whole c.settled.ensures.spans
