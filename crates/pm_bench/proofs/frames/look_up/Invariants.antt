use Rattle.pm_stripe.specs.Idle.{IsIdle}
use Rattle.pm_bench.proofs.frames.look_up.Given as goal

-- the next operation may begin
abbrev pub invariant-gets : goal.invariant-gets
invariant-gets g l = IsIdle g.R.Device.tells g.R.Device.history g.R.Device.state l.pages
