-- The child of an inner page below which a key stands.
use Rattle.std.proofs.Common.{◌≡◌, ℕ, ◌+◌, List, sym, ap, subst, ◌∙◌, inl, inr, arith}
use Rattle.std.proofs.lemmas.Bool.{cases_lt}
use Rattle.pm_btpage.specs.IndexPages.{Item, IsBelow, IsBetween, IsRising, key_in}
use Rattle.pm_btpage.specs.Finds.{IsAt}
use Rattle.pm_tree.specs.Steps.{IsChildFor}
use Rattle.pm_tree.proofs.KeyOrder.{below_then, not_below_itself}

-- the key stands at item i
pub child_at : (items : List Item) (key : List ℕ) (i : ℕ) → IsRising items → IsAt items key i → IsChildFor items key (i + 1)
child_at items key i rising at = record {
  in_range = omega (arith, at.in_range);
  upto = λ j lt below. elim (cases_lt j i) [
    | inl before ↦ not_below_itself key (below_then key (key_in items j) key below (subst (IsBelow (key_in items j)) at.has_key (rising j i before at.in_range)))
    | inr from ↦ (let e : i ≡ j = omega (arith, from, lt) in not_below_itself key (subst (IsBelow key) (ap (key_in items) (sym e) ∙ at.has_key) below))
  ];
  above = λ j le lt. subst (λ k. IsBelow k (key_in items j)) at.has_key (rising i j (omega (arith, le)) lt);
}

-- the key stands before item i
pub child_before : (items : List Item) (key : List ℕ) (i : ℕ) → IsBetween items key i → IsChildFor items key i
child_before items key i between = record {
  in_range = between.in_range;
  upto = λ j lt below. not_below_itself key (below_then key (key_in items j) key below (between.below j lt));
  above = between.above;
}
