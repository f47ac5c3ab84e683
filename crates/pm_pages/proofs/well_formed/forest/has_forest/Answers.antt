use Rattle.std.proofs.Common.{subst, sym, inl, inr, arith}
use Rattle.std.proofs.lemmas.Bool.{cases_eq}
use Rattle.pm_pages.specs.PageLists.{pages_in}
use Rattle.pm_pages.specs.Trees.{HasTree}
use Rattle.pm_pages.proofs.well_formed.forest.has_forest.Goals as goal

pub caches-preserved : goal.caches-preserved
caches-preserved c k lt = elim (cases_eq k c.caches.cache) [
  | inl same ↦ subst (HasTree (pages_in c.args.pages.now) c.args.rows.now) (sym same) (c.in_ok-has_tree.ensures.0 c.if-not-branch.false)
  | inr away ↦ c.caches.invariant k (omega (arith, away))
]
