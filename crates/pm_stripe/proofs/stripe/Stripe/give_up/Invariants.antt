use Rattle.std.proofs.Common.{◌≡◌, ◌+◌, length}
use Rattle.pm_stripe.specs.GivenUp.{GivesUpHeld}
use Rattle.pm_stripe.specs.Stripes.{kept, SameButPages}
use Rattle.pm_stripe.proofs.stripe.Stripe.give_up.Given as goal

-- as many were given up as turns are done
abbrev pub invariant-each : goal.invariant-each
invariant-each l = record {
  gives : GivesUpHeld l.locks (kept l.initial.self l.initial.seat) (kept l.self l.seat);
  same : SameButPages l.initial.self l.self;
  count : length l.self.held.items + l.counter ≡ length l.initial.self.held.items;
}
