use Rattle.pm_core.proofs.LaterImages.{call_up_to}
use Rattle.pm_core.proofs.laws.a_crash_leaves_nothing_later.Goals as goal

pub returns : goal.returns
returns c = λ wanted told s world steps stands alone can now some image leaves honest shape pairs sound. call_up_to wanted told s world steps stands alone can now some image leaves honest shape pairs sound
