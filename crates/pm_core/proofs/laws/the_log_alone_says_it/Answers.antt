use Rattle.pm_core.proofs.WithoutStart.{alone_exactly}
use Rattle.pm_core.proofs.laws.the_log_alone_says_it.Goals as goal

pub returns : goal.returns
returns c = record { same = λ wanted image shape pairs alone. alone_exactly wanted image shape pairs alone }
