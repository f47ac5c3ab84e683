use Rattle.std.proofs.Common.{refl, ap, arith, length, length-append, [], ◌∷◌}
use Rattle.pm_stripe.specs.Stripes.{kept}
use Rattle.pm_stripe.proofs.DonePages.{puts_none, puts_then, still_staying}
use Rattle.pm_stripe.proofs.GivenPages.{no_items}
use Rattle.pm_stripe.proofs.MadePages.{same_then}
use Rattle.pm_stripe.proofs.stripe.Stripe.put_all.Goals as goal

pub each-init : goal.each-init
each-init c = record {
  puts = puts_none c.args.locks.now (kept c.args.self.now c.args.seat.now) c.requires.holds;
  same = record { number = refl; shape = refl; files = refl; next = refl; is_running = refl; outbox = refl };
  count = omega arith;
}

pub put_last-requires-clause-covered : goal.put_last-requires-clause-covered
put_last-requires-clause-covered c =
    let x = c.each.invariant.puts in
    still_staying c.each.self.held.items x.rest c.args.self.now.held.items x.held c.requires.covered

pub each-preserved : goal.each-preserved
each-preserved c =
    let y = c.put_last.ensures.puts in record {
      puts = puts_then c.args.locks.now (kept c.args.self.now c.args.seat.now) (kept c.each.self c.each.seat) (kept c.put_last.new.self c.put_last.new.seat) c.requires.holds c.each.invariant.puts y;
      same = same_then c.args.self.now c.each.self c.put_last.new.self c.each.invariant.same c.put_last.ensures.same;
      count = omega (arith, c.each.invariant.count, ap length y.held, length-append c.put_last.new.self.held.items (y.last ∷ []));
    }

pub returns-clause-none : goal.returns-clause-none
returns-clause-none c = no_items c.each.self.held.items (omega (arith, c.each.invariant.count))
