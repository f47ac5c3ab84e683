use Rattle.pm_stripe.specs.Idle.{IsIdle}
use Rattle.pm_bench.proofs.worker_pages.threads.operate_often.Given as goal

-- the next operation may begin
abbrev pub invariant-operations : goal.invariant-operations
invariant-operations g l = IsIdle g.R.Device.tells g.R.Device.history g.R.Device.state l.pages
