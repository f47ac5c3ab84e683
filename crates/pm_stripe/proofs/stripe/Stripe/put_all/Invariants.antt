use Rattle.std.proofs.Common.{◌≡◌, ◌+◌, length}
use Rattle.pm_stripe.specs.Puts.{PutsBack}
use Rattle.pm_stripe.specs.Stripes.{kept, SameButPages}
use Rattle.pm_stripe.proofs.stripe.Stripe.put_all.Given as goal

-- as many were put back as turns are done
abbrev pub invariant-each : goal.invariant-each
invariant-each l = record {
  puts : PutsBack l.locks (kept l.initial.self l.initial.seat) (kept l.self l.seat);
  same : SameButPages l.initial.self l.self;
  count : length l.self.held.items + l.counter ≡ length l.initial.self.held.items;
}
