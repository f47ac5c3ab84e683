use Rattle.pm_stripe.proofs.FileStripes.{rests_on_files}
use Rattle.pm_stripe.proofs.laws.a_stripe_rests_on_files.Goals as goal

pub returns : goal.returns
returns c = rests_on_files
