use Rattle.pm_core.proofs.One.{held_once}
use Rattle.pm_core.proofs.laws.held_is_one_map.Goals as goal

pub returns : goal.returns
returns c = record { one = λ wanted checkpoint image shape other pairs more one two. held_once wanted checkpoint image shape other pairs more one two }
