use Rattle.pm_stripe.proofs.CoveredPages.{are_covered}
use Rattle.pm_stripe.proofs.laws.edits_are_covered.Goals as goal

pub returns : goal.returns
returns g c = are_covered g.R.Device.tells g.R.Device.history g.R.Device.state
