use Rattle.pm_top.proofs.Chained.{crash_law}
use Rattle.pm_top.proofs.laws.what_a_crash_leaves_is_a_start.Goals as goal

pub returns : goal.returns
returns c = crash_law
