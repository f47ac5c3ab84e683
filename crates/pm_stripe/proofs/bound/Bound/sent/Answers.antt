use Rattle.pm_stripe.proofs.SentBytes as sent
use Rattle.pm_stripe.proofs.bound.Bound.sent.Goals as goal

pub returns-clause-bound : goal.returns-clause-bound
returns-clause-bound g c = sent.still_bound g.R.Device.tells g.R.Device.history g.R.Device.state c.args.self.now c.sent.new.self c.args.n c.sent.ensures.same c.sent.ensures.sent

pub returns-clause-begins : goal.returns-clause-begins
returns-clause-begins g c = sent.still_begins g.R.Device.tells g.R.Device.history g.R.Device.state c.args.self.now c.sent.new.self c.args.n c.sent.ensures.same c.sent.ensures.sent

pub returns-clause-ready : goal.returns-clause-ready
returns-clause-ready g c = sent.still_ready g.R.Device.tells g.R.Device.history g.R.Device.state c.args.self.now c.sent.new.self c.args.n c.sent.ensures.same c.sent.ensures.sent
