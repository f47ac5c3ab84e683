use Rattle.pm_top.proofs.Chained.{done_law}
use Rattle.pm_top.proofs.laws.what_a_done_run_leaves_is_a_start.Goals as goal

pub returns : goal.returns
returns c = done_law
