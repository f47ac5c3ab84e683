use Rattle.pm_stripe.proofs.NewStripes.{new_rests}
use Rattle.pm_stripe.proofs.laws.a_new_stripe_rests.Goals as goal

pub returns : goal.returns
returns c = new_rests
