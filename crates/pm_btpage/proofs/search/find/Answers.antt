use Rattle.std.proofs.Common.{ℕ, List, sym, ◌∙◌, subst, arith}
use Rattle.std.proofs.lemmas.Map.Lookups.{exact_bytes}
use Rattle.pm_btpage.specs.IndexPages.{items_of, IsBelow}
use Rattle.pm_btpage.proofs.Sought.{below_up_to, above_from, flipped}
use Rattle.pm_btpage.proofs.search.find.Goals as goal

pub halves-preserved-in-Less : goal.halves-preserved-in-Less
halves-preserved-in-Less c = record {
  order = omega arith;
  inside = c.halves.invariant.inside;
  below = below_up_to (items_of c.args.page.now) c.args.key.now _ c.requires.items.rising (omega (arith, c.halves.invariant.inside)) (subst (λ (k : List ℕ). IsBelow k c.args.key.now) c.key_at.ensures.key (sym c.in-Less.ensures));
  above = c.halves.invariant.above;
}

pub halves-preserved : goal.halves-preserved
halves-preserved c = record {
  order = omega arith;
  inside = omega (arith, c.halves.invariant.inside);
  below = c.halves.invariant.below;
  above = λ j le lt. above_from (items_of c.args.page.now) c.args.key.now _ c.requires.items.rising (subst (λ (k : List ℕ). IsBelow c.args.key.now k) c.key_at.ensures.key (flipped c.key_at.result.now c.args.key.now (sym c.in-Greater.ensures))) j le lt;
}

pub returns-in-Equal : goal.returns-in-Equal
returns-in-Equal c = record { in_range = omega (arith, c.halves.invariant.inside); has_key = sym c.key_at.ensures.key ∙ exact_bytes c.key_at.result.now c.args.key.now (sym c.in-Equal.ensures) }
