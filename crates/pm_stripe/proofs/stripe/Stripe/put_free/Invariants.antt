use Rattle.std.proofs.Common.{◌≡◌, ◌+◌, length}
use Rattle.pm_stripe.specs.Frees.{FreesFrames}
use Rattle.pm_stripe.specs.Stripes.{kept, SameButPages}
use Rattle.pm_stripe.proofs.stripe.Stripe.put_free.Given as goal

-- as many were put back as turns are done
abbrev pub invariant-each : goal.invariant-each
invariant-each l = record {
  frees : FreesFrames l.locks (kept l.initial.self l.initial.seat) (kept l.self l.seat);
  same : SameButPages l.initial.self l.self;
  count : length l.self.free.items + l.counter ≡ length l.initial.self.free.items;
}
