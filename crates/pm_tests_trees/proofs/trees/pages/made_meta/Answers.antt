use Rattle.std.proofs.Common.{subst, sym}
use Rattle.std.proofs.lemmas.Result.{IfOk-weaker}
use Rattle.pm_meta.specs.MetaPages.{IsMetaPage}
use Rattle.pm_tests_trees.proofs.trees.pages.made_meta.Goals as goal

pub returns-clause-meta : goal.returns-clause-meta
returns-clause-meta c = IfOk-weaker c.copy_of.result _ _ (λ page same. subst IsMetaPage (sym same) (c.fresh.ensures.stored 0).well_made) c.copy_of.ensures
