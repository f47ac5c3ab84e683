use Rattle.std.proofs.Common.{arith}
use Rattle.pm_btpage.proofs.ItemsByIndex.{items_within}
use Rattle.pm_tree_del.proofs.neighbours.joined_count.Goals as goal

pub overflow_add-result : goal.overflow_add-result
overflow_add-result c = (let a = items_within c.args.left.now c.requires.left in let b = items_within c.args.right.now c.requires.right in omega (arith, a.0, a.1, b.0, b.1))

pub overflow_add-result-else-is_leaf : goal.overflow_add-result-else-is_leaf
overflow_add-result-else-is_leaf c = (let a = items_within c.args.left.now c.requires.left in let b = items_within c.args.right.now c.requires.right in omega (arith, a.0, a.1, b.0, b.1))

pub overflow_add-result-else-is_leaf-2 : goal.overflow_add-result-else-is_leaf-2
overflow_add-result-else-is_leaf-2 c = (let a = items_within c.args.left.now c.requires.left in let b = items_within c.args.right.now c.requires.right in omega (arith, a.0, a.1, b.0, b.1))
