use Rattle.std.proofs.Common.{ℕ, List, ◌+◌, ◌-◌, ◌∙◌, sym, subst, refl, arith}
use Rattle.pm_btpage.specs.IndexPages.{items_of, IsBelow, IsRising}
use Rattle.pm_btpage.proofs.ItemsByIndex.{length-items_of, key_in-items_of}
use Rattle.pm_btpage.proofs.Neighbours.{rising_from_neighbours}
use Rattle.pm_btpage.proofs.checks.rise.Goals as goal

pub returns-then-not-is_below : goal.returns-then-not-is_below
returns-then-not-is_below c =
    let page = c.args.page.now in
    let i = c.pairs.i in
    let below = λ (rising : IsRising (items_of page)). subst (λ (z : List ℕ × List ℕ). IsBelow z.0 z.1)
    (λ t. ((key_in-items_of page (i - 1) (omega (arith, c.requires.count)) ∙ sym c.stored_key.ensures.key) t, (key_in-items_of page i (omega (arith, c.requires.count)) ∙ sym c.stored_key-in-pairs.ensures.key) t))
    (rising (i - 1) i (omega arith) (omega (arith, c.requires.count, length-items_of page))) in
    (λ t. absurd (cc), λ rising. sym c.if-not-is_below.true ∙ c.is_below.ensures.1 (below rising))

pub returns : goal.returns
returns c =
    let page = c.args.page.now in
    let len = length-items_of page in (
      λ t. rising_from_neighbours (items_of page) (λ k lt. subst (λ (z : List ℕ × List ℕ). IsBelow z.0 z.1)
          (λ t. (sym (key_in-items_of page k (omega (arith, len))) t, sym (key_in-items_of page (k + 1) (omega (arith, len))) t))
          (c.pairs.invariant k (omega (arith, len, c.requires.count)))),
      λ rising. refl,
    )
