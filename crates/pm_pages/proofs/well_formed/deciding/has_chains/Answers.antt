use Rattle.std.proofs.Common.{subst, sym, inl, inr, arith}
use Rattle.std.proofs.lemmas.Bool.{cases_eq}
use Rattle.pm_pages.specs.PageLists.{pages_in}
use Rattle.pm_pages.specs.Chains.{HasChain}
use Rattle.pm_pages.proofs.well_formed.deciding.has_chains.Goals as goal

pub buckets-preserved : goal.buckets-preserved
buckets-preserved c k lt = elim (cases_eq k c.buckets.bucket) [
  | inl same ↦ subst (HasChain (pages_in c.args.pages.now)) (sym same) (c.in_ok-has_chain.ensures.0 c.if-not-branch.false)
  | inr away ↦ c.buckets.invariant k (omega (arith, away))
]
