use Rattle.std.proofs.Common.{◌≡◌, ◌+◌, ◌∷◌, ◌∙◌, List, drop, get_or, sym, subst, arith}
use Rattle.std.proofs.lemmas.List.{drop_more}
use Rattle.pm_data.specs.declared.slots.Slot.{Slot}
use Rattle.pm_data.specs.Following.{AreConsecutive}
use Rattle.pm_data.proofs.Filled.{follow_void, follow_live}
use Rattle.pm_data.proofs.checks.are_consecutive.Goals as goal
use Rattle.pm_data.proofs.checks.are_consecutive.Goals.{then-not-is_empty+else-slot-next, else-not-is_empty}

pub each-preserved : goal.each-preserved
each-preserved c =
    let slots = c.args.slots.now in
    let i = c.each.slot-index in
    let slot : Slot = get_or slots i (record { start = 0; len = 0 }) in
    let rest = drop (i + 1) slots in
    let here : drop i slots ≡ slot ∷ rest = drop_more slots i (record { start = 0; len = 0 }) c.each-test.true in
    let step = elim c.if-not-is_empty.branch as (λ _. (AreConsecutive c.each.next c.args.end (slot ∷ rest) → AreConsecutive c.if-not-is_empty.next c.args.end rest) × (AreConsecutive c.if-not-is_empty.next c.args.end rest → AreConsecutive c.each.next c.args.end (slot ∷ rest))) [
      | then-not-is_empty+else-slot-next w ↦ follow_live slot rest c.each.next c.args.end c.if-not-is_empty.next (sym c.is_empty.ensures ∙ w.if-not-is_empty.true) (omega (arith, w.if-slot-next)) w.next-is
      | else-not-is_empty w ↦ subst (λ n. (AreConsecutive c.each.next c.args.end (slot ∷ rest) → AreConsecutive n c.args.end rest) × (AreConsecutive n c.args.end rest → AreConsecutive c.each.next c.args.end (slot ∷ rest))) (sym w.next-is) (follow_void slot rest c.each.next c.args.end (sym c.is_empty.ensures ∙ w.if-not-is_empty.false))
    ] in
    record {
      left = λ h. step.0 (subst (λ (t : List Slot). AreConsecutive c.each.next c.args.end t) here (c.each.invariant.left h));
      whole = λ h. c.each.invariant.whole (subst (λ (t : List Slot). AreConsecutive c.each.next c.args.end t) (sym here) (step.1 h));
    }
