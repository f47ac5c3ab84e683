use Rattle.pm_types.proofs.Changes.{noted_then}
use Rattle.pm_tree_del.proofs.sharing.join_leaves.Goals as goal

pub returns-clause-noted : goal.returns-clause-noted
returns-clause-noted c = noted_then c.args.patch.now _ _ c.args.left.now _ _ c.merge.ensures.noted c.set_next.ensures.noted
