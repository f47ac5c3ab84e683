use Rattle.std.proofs.Common.{refl, arith}
use Rattle.pm_stripe.specs.Stripes.{kept}
use Rattle.pm_stripe.proofs.GivenPages.{gives_none, gives_then, still_unlent, no_items}
use Rattle.pm_stripe.proofs.MadePages.{same_then}
use Rattle.pm_stripe.proofs.stripe.Stripe.give_up.Goals as goal

pub each-init : goal.each-init
each-init c = record {
  gives = gives_none c.args.locks.now (kept c.args.self.now c.args.seat.now) c.requires.holds;
  same = record { number = refl; shape = refl; files = refl; next = refl; is_running = refl; outbox = refl };
  count = omega arith;
}

pub give_up_last-requires-clause-unlent : goal.give_up_last-requires-clause-unlent
give_up_last-requires-clause-unlent c =
    let x = c.each.invariant.gives in
    still_unlent c.each.self.held.items x.rest c.args.self.now.held.items x.held c.requires.unlent

pub give_up_last-requires-clause-few : goal.give_up_last-requires-clause-few
give_up_last-requires-clause-few c = omega (arith, c.each.invariant.gives.bare, c.requires.few)

pub each-preserved : goal.each-preserved
each-preserved c = record {
  gives = gives_then c.args.locks.now (kept c.args.self.now c.args.seat.now) (kept c.each.self c.each.seat) (kept c.give_up_last.new.self c.give_up_last.new.seat) c.each.invariant.gives c.give_up_last.ensures.gives;
  same = same_then c.args.self.now c.each.self c.give_up_last.new.self c.each.invariant.same c.give_up_last.ensures.same;
  count = omega (arith, c.each.invariant.count, c.give_up_last.ensures.count);
}

pub returns-clause-none : goal.returns-clause-none
returns-clause-none c = no_items c.each.self.held.items (omega (arith, c.each.invariant.count))
