use Rattle.std.proofs.Common.{◌≡◌, ℕ, ◌+◌, ◌-◌, List, subst, refl, sym, ap, ◌∙◌, inl, inr, arith}
use Rattle.std.proofs.lemmas.Bool.{cases_eq}
use Rattle.std.proofs.lemmas.List.{length-map}
use Rattle.pm_btpage.specs.IndexPages.{key_in, IsBelow}
use Rattle.pm_btpage.proofs.Neighbours.{rising_from_neighbours}
use Rattle.pm_pages.specs.declared.well_formed.listing.TreeItem.{TreeItem}
use Rattle.pm_pages.specs.TreeItems.{as_item, as_items}
use Rattle.pm_pages.proofs.TreeLists.{key_in-as_items}
use Rattle.pm_pages.proofs.well_formed.listing.rise.Goals as goal

-- the keys of two items that were read
pub returns-then-not-precedes : goal.returns-then-not-precedes
returns-then-not-precedes c =
    let items = c.args.items.now in
    let i = c.pairs.i in
    let before = key_in-as_items items (i - 1) c.index-items-i.result (omega (arith, c.pairs-test.true)) ∙ ap (λ (t : TreeItem). t.key) (sym c.index-items-i.is) in
    let here = key_in-as_items items i c.index-items-i-in-pairs.result c.pairs-test.true ∙ ap (λ (t : TreeItem). t.key) (sym c.index-items-i-in-pairs.is) in
    (λ h. absurd (cc h), λ rising. sym c.if-not-precedes.true ∙ c.precedes.ensures.1 (subst (λ (p : List ℕ × List ℕ). IsBelow p.0 p.1) (λ t. (before t, here t)) (rising (i - 1) i (omega (arith, c.pairs.auto)) (omega (arith, c.pairs-test.true, length-map items as_item)))))

pub pairs-preserved : goal.pairs-preserved
pairs-preserved c k lt =
    let items = c.args.items.now in
    let i = c.pairs.i in
    let before = key_in-as_items items (i - 1) c.index-items-i.result (omega (arith, c.pairs-test.true)) ∙ ap (λ (t : TreeItem). t.key) (sym c.index-items-i.is) in
    let here = key_in-as_items items i c.index-items-i-in-pairs.result c.pairs-test.true ∙ ap (λ (t : TreeItem). t.key) (sym c.index-items-i-in-pairs.is) in
    elim (cases_eq (k + 1) i) [
      | inl same ↦
          let below : IsBelow (key_in (as_items items) (i - 1)) (key_in (as_items items) i) = subst (λ (p : List ℕ × List ℕ). IsBelow p.0 p.1) (λ t. (sym before t, sym here t)) (c.precedes.ensures.0 c.if-not-precedes.false) in
          let k_is : i - 1 ≡ k = omega (arith, same) in
          subst (λ (p : ℕ × ℕ). IsBelow (key_in (as_items items) p.0) (key_in (as_items items) p.1)) (λ t. (k_is t, sym same t)) below
      | inr away ↦ c.pairs.invariant k (omega (arith, away))
    ]

pub returns : goal.returns
returns c = (λ h. rising_from_neighbours (as_items c.args.items.now) (λ k lt. c.pairs.invariant k (omega (arith, lt, c.pairs-test.false, length-map c.args.items.now as_item))), λ rising. refl)
