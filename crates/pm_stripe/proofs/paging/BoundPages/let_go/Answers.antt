use Rattle.pm_stripe.proofs.BoundCalls as calls
use Rattle.pm_stripe.proofs.paging.BoundPages.let_go.Goals as goal

pub give_up-requires-clause-unlent : goal.give_up-requires-clause-unlent
give_up-requires-clause-unlent g c = calls.unlent g.R.Device.tells g.R.Device.history g.R.Device.state c.args.self.now c.requires.ready c.requires.none_lent

pub returns-clause-kept : goal.returns-clause-kept
returns-clause-kept g c = calls.gives_keeps g.R.Device.tells g.R.Device.history g.R.Device.state c.args.self.now c.give_up.new.self c.give_up.new.seat c.requires.ready c.give_up.ensures.same c.give_up.ensures.gives c.give_up.ensures.none (calls.unlent g.R.Device.tells g.R.Device.history g.R.Device.state c.args.self.now c.requires.ready c.requires.none_lent)

pub returns-clause-gives_up : goal.returns-clause-gives_up
returns-clause-gives_up g c = calls.gives_pages g.R.Device.tells g.R.Device.history g.R.Device.state c.args.self.now c.give_up.new.self c.give_up.new.seat c.requires.ready c.give_up.ensures.same c.give_up.ensures.gives c.give_up.ensures.none (calls.unlent g.R.Device.tells g.R.Device.history g.R.Device.state c.args.self.now c.requires.ready c.requires.none_lent)
