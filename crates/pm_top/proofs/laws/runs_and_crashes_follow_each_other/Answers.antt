use Rattle.pm_top.proofs.Chained.{chain}
use Rattle.pm_top.proofs.laws.runs_and_crashes_follow_each_other.Goals as goal

pub returns : goal.returns
returns c = chain
