use Rattle.pm_stripe.proofs.ReadableParts.{keeps_reading}
use Rattle.pm_stripe.proofs.laws.pages_at_hand_stay_readable.Goals as goal

pub returns : goal.returns
returns g c = keeps_reading g.R.Device.tells g.R.Device.history g.R.Device.state
