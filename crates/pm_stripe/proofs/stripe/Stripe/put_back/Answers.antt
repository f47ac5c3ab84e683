use Rattle.std.proofs.Common.{refl}
use Rattle.pm_stripe.specs.Stripes.{kept}
use Rattle.pm_stripe.proofs.HeldPages.{covered, puts_held}
use Rattle.pm_stripe.proofs.MadePages.{same_then}
use Rattle.pm_stripe.proofs.stripe.Stripe.put_back.Goals as goal

pub mark_lent-requires : goal.mark_lent-requires
mark_lent-requires c = record { size = c.requires.holds.shaped.page_size }

pub put_all-requires-clause-holds : goal.put_all-requires-clause-holds
put_all-requires-clause-holds c = (c.mark_lent.ensures.marks c.args.locks.now c.args.seat.now c.requires.holds).holds

pub put_all-requires-clause-covered : goal.put_all-requires-clause-covered
put_all-requires-clause-covered c = λ i h is stay.
    covered c.args.locks.now (kept c.args.self.now c.args.seat.now) (kept c.mark_lent.new.self c.args.seat.now) (c.mark_lent.ensures.marks c.args.locks.now c.args.seat.now c.requires.holds) i h is

pub returns-clause-puts : goal.returns-clause-puts
returns-clause-puts c =
    puts_held c.args.locks.now (kept c.args.self.now c.args.seat.now) (kept c.mark_lent.new.self c.args.seat.now) (kept c.put_all.new.self c.put_all.new.seat) refl
    (c.mark_lent.ensures.marks c.args.locks.now c.args.seat.now c.requires.holds) c.put_all.ensures.puts c.put_all.ensures.none

pub returns-clause-same : goal.returns-clause-same
returns-clause-same c = same_then c.args.self.now c.mark_lent.new.self c.put_all.new.self c.mark_lent.ensures.same c.put_all.ensures.same
