use Rattle.pm_policies.proofs.Trees.{IsEntered}
use Rattle.pm_policies.proofs.tournament.enter.Given as goal

abbrev pub invariant-games : goal.invariant-games
invariant-games l = IsEntered l.leaves l.fn.nodes l.nodes l.leaf l.fn.node l.at

abbrev pub decreases-games : goal.decreases-games
decreases-games l = l.at
