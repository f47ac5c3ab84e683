use Rattle.std.proofs.Common.{subst, refl, arith}
use borrow.Author.Count.{below_more}
use Rattle.pm_data.specs.DataPages.{IsSound}
use Rattle.pm_data.proofs.checks.each_holds.Goals as goal

pub items-preserved : goal.items-preserved
items-preserved c = below_more _ _ c.items.invariant (subst (λ s. IsSound c.args.page.now s) c.get_slot.ensures (c.holds.ensures.0 c.if-not-holds.false))

pub returns : goal.returns
returns c = (λ _ k lt. c.items.invariant k (omega arith), λ _. refl)
