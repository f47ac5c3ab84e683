use Rattle.std.proofs.Common.{◌≡◌}
use Rattle.pm_stripe.specs.Begins.{IsOwnPart}
use Rattle.pm_stripe.specs.Bounds.{IsBound}
use Rattle.pm_bench.proofs.worker_pages.page_steps.make_pages.Given as goal

-- the next operation may be made ready
abbrev pub invariant-pages : goal.invariant-pages
invariant-pages g l = record {
  bound : IsBound g.R.Device.tells g.R.Device.history g.R.Device.state l.pages;
  locks : l.pages.locks ≡ l.initial.pages.locks;
  part : IsOwnPart l.pages l.pages.part;
}
