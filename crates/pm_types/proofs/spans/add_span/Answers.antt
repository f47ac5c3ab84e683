use Rattle.std.proofs.Common.{ℕ, ◌≡◌, ◌+◌, ◌≤◌, ◌⊎◌, List, length, get_or, take, subst, sym, ap, ◌∙◌, arith}
use Rattle.pm_types.specs.declared.spans.Span.{Span}
use Rattle.pm_types.specs.Spans.{Lists, IsInSpans, IsInSpan}
use Rattle.pm_types.proofs.AddedSpans.{hull_of, with_span, IsWalked, step_before, step_after, step_meets, walked_all, with_span_lists}
use Rattle.pm_types.proofs.spans.add_span.Goals as goal
use Rattle.pm_types.proofs.spans.add_span.Goals.{then-span-carried, else-span-carried+then-carried-span, else-span-carried+else-carried-span}

pub each-preserved : goal.each-preserved
each-preserved c =
    let all = with_span (take c.args.count c.args.spans.now) c.args.added in
    let P : List Span × Span × ℕ → Type 0 = λ p. IsWalked p.0 p.1 p.2 (c.each.i + 1) c.args.count all in
    let fits : c.args.count ≤ length c.each.spans = omega arith in
    elim c.if-span-carried.branch [
      | then-span-carried w ↦ subst P (λ j. (sym w.spans-is j, sym w.carried-is j, sym w.placed-is j)) (step_before c.each.spans all c.each.carried _ c.each.placed c.each.i c.args.count c.each.invariant c.each-test.true fits w.if-span-carried.true)
      | else-span-carried+then-carried-span w ↦ subst P (λ j. (sym w.spans-is j, sym w.carried-is j, sym w.placed-is j)) (step_after c.each.spans all c.each.carried _ c.each.placed c.each.i c.args.count c.each.invariant c.each-test.true fits w.if-span-carried.false w.if-carried-span.true)
      | else-span-carried+else-carried-span w ↦
          let same : hull_of c.each.carried (get_or c.each.spans c.each.i (record { start = 0; end = 0 })) ≡ c.if-span-carried.carried = λ j. record { start = sym (ap (λ (s : Span). s.start) w.carried-is ∙ w.hull-carried.ensures.start) j; end = sym (ap (λ (s : Span). s.end) w.carried-is ∙ w.hull-carried.ensures.end) j } in
          subst P (λ j. (sym w.spans-is j, same j, sym w.placed-is j)) (step_meets c.each.spans all c.each.carried _ c.each.placed c.each.i c.args.count c.each.invariant c.each-test.true fits w.if-span-carried.false w.if-carried-span.false)
    ]

pub returns-clause-lists : goal.returns-clause-lists
returns-clause-lists c =
    let xs = take c.args.count c.args.spans.now in
    let all = walked_all c.each.spans (with_span xs c.args.added) c.each.carried c.each.placed c.each.i c.args.count c.each.invariant c.each-test.false (omega arith) (omega arith) in
    subst (λ (t : List Span). Lists t (λ k. IsInSpans xs k ⊎ IsInSpan c.args.added k)) (sym all) (with_span_lists xs c.args.added c.requires.rise c.requires.some)
