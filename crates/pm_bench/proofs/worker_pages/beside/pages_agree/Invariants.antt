use Rattle.pm_stripe.specs.Idle.{IsIdle}
use Rattle.pm_bench.proofs.worker_pages.beside.pages_agree.Given as goal

-- the next page may be looked at
abbrev pub invariant-pages : goal.invariant-pages
invariant-pages g l = IsIdle g.R.Device.tells g.R.Device.history g.R.Device.state l.pages
