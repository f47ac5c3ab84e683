use Rattle.pm_ckpt.proofs.StayingPages.{stay_at_rest}
use Rattle.pm_ckpt.proofs.laws.stripes_stay_at_rest.Goals as goal

pub returns : goal.returns
returns c = stay_at_rest
