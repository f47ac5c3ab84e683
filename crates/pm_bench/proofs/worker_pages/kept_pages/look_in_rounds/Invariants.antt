use Rattle.std.proofs.Common.{◌≡◌}
use Rattle.pm_stripe.specs.Begins.{IsOwnPart}
use Rattle.pm_stripe.specs.Bounds.{IsBound}
use Rattle.pm_bench.proofs.worker_pages.kept_pages.look_in_rounds.Given as goal

-- the next round may begin
abbrev pub invariant-rounds : goal.invariant-rounds
invariant-rounds g l = record {
  bound : IsBound g.R.Device.tells g.R.Device.history g.R.Device.state l.pages;
  own : IsOwnPart l.pages 0;
  part : l.pages.part ≡ 0;
  locks : l.pages.locks.now ≡ l.fn.locks;
}
