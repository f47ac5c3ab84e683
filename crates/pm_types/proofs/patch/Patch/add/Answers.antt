use Rattle.std.proofs.Common.{ap, take, sym, subst, arith, ◌∙◌}
use Rattle.pm_types.specs.Spans.{IsPatch}
use Rattle.pm_types.proofs.Coverages.{settled_covers, covers_nothing, stays_whole}
use Rattle.pm_types.proofs.patch.Patch.add.Goals as goal
use Rattle.pm_types.proofs.patch.Patch.add.Goals.{then-len-eq0-via-then-len-eq0, then-len-eq0-via-else-len-eq0+then-self}

pub returns-then-len-eq0 : goal.returns-then-len-eq0
returns-then-len-eq0 c =
    let is = subst IsPatch c.self.view_is c.self.invariant.1 in
    elim c.then-len-eq0.branch [
      | then-len-eq0-via-then-len-eq0 w ↦ covers_nothing c.args.self.now _ is (λ k h. omega (arith, h.0, h.1))
      | then-len-eq0-via-else-len-eq0+then-self w ↦ stays_whole c.args.self.now _ is (sym (ap (λ p. p.whole) c.self.view_is) ∙ w.if-self.true) (λ k h. omega (arith, h.1))
    ]

pub returns : goal.returns
returns c =
    let before = ap (λ n. take n c.with_room-spans.result) c.self.invariant.0 ∙ c.with_room-spans.ensures in
    settled_covers _ _ _ _ _ _ _ _ c.self.view_is (sym c.self-2.view_is) c.self.invariant.1 c.if-self.false before c.add_span-count.ensures.lists (λ k h. h) (λ k h. h)
    (λ k h. omega (arith, h.1, ap (λ p. p.page_size) c.self.view_is)) c.settled.ensures.size c.settled.ensures.whole c.settled.ensures.spans
