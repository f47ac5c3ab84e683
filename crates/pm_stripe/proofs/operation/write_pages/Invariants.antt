use Rattle.std.proofs.Common.{◌≡◌, ◌-◌, ◌^◌, length}
use Rattle.pm_stripe.proofs.WrittenPages.{AreWritten}
use Rattle.pm_stripe.proofs.operation.write_pages.Given as goal

-- the pages with names below `low` are written
abbrev pub invariant-pages : goal.invariant-pages
invariant-pages l = record {
  size : length l.into ≡ length l.initial.into;
  written : AreWritten l.held l.into l.end l.low;
}

abbrev pub decreases-pages : goal.decreases-pages
decreases-pages l = 2 ^ 64 - l.low
