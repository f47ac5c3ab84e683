use Rattle.pm_stripe.proofs.IdlePages.{sent_idle}
use Rattle.pm_bench.proofs.bound_pages.send.Goals as goal

pub returns : goal.returns
returns g c = sent_idle g.R.Device.tells g.R.Device.history g.R.Device.state c.args.pages.now c.sent.new.self c.requires c.sent.ensures.same (c.sent.ensures.bound c.requires.bound)
