use Rattle.pm_tree.proofs.MapLaws.{put_rising, get_put_here, get_put_other}
use Rattle.pm_tree.proofs.maps.puts_are_a_maps.Goals as goal

pub returns-clause-here : goal.returns-clause-here
returns-clause-here c = get_put_here

pub returns-clause-others : goal.returns-clause-others
returns-clause-others c = get_put_other

pub returns-clause-rising : goal.returns-clause-rising
returns-clause-rising c = put_rising
