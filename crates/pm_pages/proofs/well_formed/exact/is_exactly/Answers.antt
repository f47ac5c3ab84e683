use Rattle.std.proofs.Common.{◌≡◌, ℕ, ◌<◌, ◌≤◌, false, length, get_or, sym, ◌∙◌, arith}
use Rattle.std.specs.Cmp.{booleans_Decides}
use Rattle.std.proofs.lemmas.Slice.Eq.{slice_eq-Decides}
use Rattle.std.proofs.lemmas.List.{get_or_default}
use Rattle.pm_pages.proofs.Exactly.{seen_twice, too_large, as_wanted, not_as_wanted}
use Rattle.pm_pages.proofs.well_formed.exact.is_exactly.Goals as goal
use Rattle.pm_pages.proofs.well_formed.exact.is_exactly.Goals.{then-i-len-via-then-i-len, then-i-len-via-else-i-len+then-index}

pub returns-then-i-len : goal.returns-then-i-len
returns-then-i-len c =
    let n : ℕ = get_or c.args.list.now c.each.number-index 0 in
    let is : n ≡ get_or c.args.list.now c.each.number-index n = get_or_default c.args.list.now c.each.number-index 0 n c.each-test.true in (
      λ h. absurd (cc h),
      λ exactly. absurd (elim c.then-i-len.branch [
        | then-i-len-via-then-i-len w ↦ too_large c.args.list.now c.args.wanted.now c.each.seen.items c.each.number-index n c.each.invariant c.each-test.true is (omega (arith, w.if-i-len.true, c.len.ensures)) exactly
        | then-i-len-via-else-i-len+then-index w ↦
            let below : n < length c.each.seen.items = omega (arith, w.if-i-len.false, c.len.ensures) in
            seen_twice c.args.list.now c.args.wanted.now c.each.seen.items c.each.number-index n c.each.invariant c.each-test.true is below (get_or_default c.each.seen.items n false w.index.result.now below ∙ sym w.index.ensures ∙ w.if-index.true) exactly
      ]),
    )

pub returns : goal.returns
returns c =
    let decides = slice_eq-Decides booleans_Decides c.as_slice.result.now c.args.wanted.now c.eq.result c.eq.ensures in
    let last : length c.args.list.now ≤ c.each.number-index = omega (arith, c.each-test.false) in (
      λ same. as_wanted c.args.list.now c.args.wanted.now c.each.seen.items c.each.number-index c.each.invariant last (sym c.as_slice.ensures.value ∙ decides.0 same),
      λ exactly. decides.1 (c.as_slice.ensures.value ∙ not_as_wanted c.args.list.now c.args.wanted.now c.each.seen.items c.each.number-index c.each.invariant last exactly),
    )
