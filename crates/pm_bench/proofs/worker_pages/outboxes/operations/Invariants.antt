use Rattle.pm_stripe.specs.Begins.{IsOwnPart}
use Rattle.pm_stripe.specs.Bounds.{IsBound}
use Rattle.pm_bench.proofs.worker_pages.outboxes.operations.Given as goal

-- the next operation may be made ready
abbrev pub invariant-rows : goal.invariant-rows
invariant-rows g l = record {
  bound : IsBound g.R.Device.tells g.R.Device.history g.R.Device.state l.pages;
  part : IsOwnPart l.pages l.pages.part;
}
