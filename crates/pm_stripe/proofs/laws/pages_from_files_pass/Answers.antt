use Rattle.pm_stripe.proofs.ReadPages.{file_pages_pass}
use Rattle.pm_stripe.proofs.laws.pages_from_files_pass.Goals as goal

pub returns : goal.returns
returns g c = file_pages_pass g.R.Device.tells g.R.Device.history g.R.Device.state
