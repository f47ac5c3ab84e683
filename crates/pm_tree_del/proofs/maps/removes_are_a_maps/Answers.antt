use Rattle.pm_tree_del.proofs.RemovedItems.{get_remove_here, get_remove_other, remove_rising}
use Rattle.pm_tree_del.proofs.maps.removes_are_a_maps.Goals as goal

pub returns-clause-here : goal.returns-clause-here
returns-clause-here c = get_remove_here

pub returns-clause-others : goal.returns-clause-others
returns-clause-others c = get_remove_other

pub returns-clause-rising : goal.returns-clause-rising
returns-clause-rising c = remove_rising
