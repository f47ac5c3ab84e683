use Rattle.std.proofs.Common.{refl, arith}
use Rattle.pm_stripe.specs.Stripes.{kept}
use Rattle.pm_stripe.proofs.FreedFrames.{frees_none, frees_then}
use Rattle.pm_stripe.proofs.GivenPages.{no_items}
use Rattle.pm_stripe.proofs.MadePages.{same_then}
use Rattle.pm_stripe.proofs.stripe.Stripe.put_free.Goals as goal

pub each-init : goal.each-init
each-init c = record {
  frees = frees_none c.args.locks.now (kept c.args.self.now c.args.seat.now) c.requires.holds;
  same = record { number = refl; shape = refl; files = refl; next = refl; is_running = refl; outbox = refl };
  count = omega arith;
}

pub each-preserved : goal.each-preserved
each-preserved c = record {
  frees = frees_then c.args.locks.now (kept c.args.self.now c.args.seat.now) (kept c.each.self c.each.seat) (kept c.put_free_last.new.self c.put_free_last.new.seat) c.requires.holds c.each.invariant.frees c.put_free_last.ensures.frees;
  same = same_then c.args.self.now c.each.self c.put_free_last.new.self c.each.invariant.same c.put_free_last.ensures.same;
  count = omega (arith, c.each.invariant.count, c.put_free_last.ensures.count);
}

pub returns-clause-none : goal.returns-clause-none
returns-clause-none c = no_items c.each.self.free.items (omega (arith, c.each.invariant.count))
