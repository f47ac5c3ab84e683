use Rattle.std.proofs.Common.{◌+◌, ◌≤◌, inr, length, refl, sym, subst}
use Rattle.pm_types.specs.declared.limits.TheConstants.{OP_EXTRA, OUTBOX}
use Rattle.pm_stripe.specs.Listings.{pages_room}
use Rattle.pm_stripe.specs.Stripes.{kept}
use Rattle.pm_stripe.proofs.DonePages.{has_room}
use Rattle.pm_stripe.proofs.EndedOperations.{ends}
use Rattle.pm_stripe.proofs.bound.Bound.done.Goals as goal

pub log-requires-clause-room : goal.log-requires-clause-room
log-requires-clause-room g c =
    let b = c.args.self.now in
    subst (λ hs. length b.stripe.outbox + pages_room hs + OP_EXTRA ≤ OUTBOX) (sym c.deref.ensures.value)
    (has_room b.locks.now (kept b.stripe b.seat) b.stripe c.requires.ready.bound.holds refl c.requires.ready.operates.frames.few c.requires.room)

pub put_all-requires-clause-covered : goal.put_all-requires-clause-covered
put_all-requires-clause-covered g c = λ i h is stay. c.requires.covered i h is (inr stay)

pub returns-clause-ends : goal.returns-clause-ends
returns-clause-ends g c =
    ends g.R.Device.tells g.R.Device.history g.R.Device.state c.args.self.now c.put_all.new.self c.put_all.new.seat c.log.new.self c.requires.ready c.requires.covered
    c.put_all.ensures.same c.put_all.ensures.puts c.put_all.ensures.none
