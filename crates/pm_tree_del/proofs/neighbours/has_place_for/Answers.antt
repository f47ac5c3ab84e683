use Rattle.std.proofs.Common.{arith}
use Rattle.pm_btpage.proofs.ItemsByIndex.{items_within}
use Rattle.pm_tree_del.proofs.neighbours.has_place_for.Goals as goal

pub overflow_add-i : goal.overflow_add-i
overflow_add-i c = (let b = items_within c.args.parent.now c.requires.page in omega (arith, b.0, b.1, c.requires.item))
