use Rattle.pm_types.proofs.Changes.{noted_then}
use Rattle.pm_tree_del.proofs.sharing.move_last_child.Goals as goal

pub returns-clause-right_noted : goal.returns-clause-right_noted
returns-clause-right_noted c = noted_then c.args.right_patch.now _ _ c.args.right.now _ _ c.insert_at.ensures.noted c.set_first.ensures.noted
