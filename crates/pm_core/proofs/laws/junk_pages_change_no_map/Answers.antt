use Rattle.pm_core.proofs.Junk.{junk_holds}
use Rattle.pm_core.proofs.laws.junk_pages_change_no_map.Goals as goal

pub returns : goal.returns
returns c = record { holds = λ wanted checkpoint image files shape pairs holds grows. junk_holds wanted checkpoint image files shape pairs holds grows }
