use Rattle.pm_tree.proofs.TallTrees.{tall_has_items}
use Rattle.pm_tree.proofs.heights.no_partition_is_tall.Goals as goal

pub returns-clause-items : goal.returns-clause-items
returns-clause-items c = tall_has_items
