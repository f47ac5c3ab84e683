use Rattle.pm_top.proofs.Chained.{fresh_start}
use Rattle.pm_top.proofs.laws.a_fresh_folder_is_a_start.Goals as goal

pub returns : goal.returns
returns c = fresh_start
