use Rattle.std.proofs.Common.{List, true, false, None, refl, sym, ap, subst, arith}
use Rattle.std.specs.Vec.{vec_capacity}
use Rattle.pm_stripe.specs.declared.held.Held.{Held}
use Rattle.pm_stripe.specs.Kept.{TakesPage}
use Rattle.pm_stripe.specs.Stripes.{kept}
use Rattle.pm_stripe.proofs.TakenPages.{has_put, taken_page}
use Rattle.pm_stripe.proofs.LostPages.{lost_page}
use Rattle.pm_stripe.proofs.stripe.Stripe.take_kept.Goals as goal

pub take_frame-requires-clause-put : goal.take_frame-requires-clause-put
take_frame-requires-clause-put g c = has_put c.args.locks.now (kept c.args.self.now c.args.seat.now) c.args.page c.args.frame c.args.tag c.requires.holds c.requires.kept

pub forget-requires : goal.forget-requires
forget-requires g c = let x = (c.requires.holds.kept c.args.page c.args.frame c.args.tag c.requires.kept).frame in omega (arith, x, c.requires.holds.many)

pub returns-in-Some-clause-takes : goal.returns-in-Some-clause-takes
returns-in-Some-clause-takes g c =
    let k = kept c.args.self.now c.args.seat.now in
    let new : Held = record { page = c.args.page; frame = c.args.frame; tag = c.args.tag; lease = c.in-Some.lease; was = c.of-was.result; flag = c.in-Some.flag; is_read = false; is_lent = false; patch = None } in
    let P : List Held → Type 0 = λ hs. TakesPage c.args.locks.now k (record k { seat = c.take_frame.new.seat; held = hs; held_room = vec_capacity c.push_reserved.new.self }) c.args.page true in
    subst P (sym c.push_reserved.ensures.items)
    (taken_page c.args.locks.now k new c.take_frame.new.seat (vec_capacity c.push_reserved.new.self) c.requires.holds c.requires.away c.requires.kept c.in-Some.ensures.seat c.in-Some.ensures.takes
    (ap (λ l. l.bytes) c.of-was.ensures) refl refl refl (omega (arith, c.push_reserved.ensures.capacity, c.requires.holds.held_room)) c.in-Some.ensures.sight)

pub returns-in-None-clause-takes : goal.returns-in-None-clause-takes
returns-in-None-clause-takes g c =
    let k = kept c.args.self.now c.args.seat.now in
    lost_page c.args.locks.now k c.args.page c.args.frame c.args.tag c.take_frame.new.seat c.forget.new.self c.requires.holds c.requires.away c.requires.kept c.in-None.ensures.seat c.in-None.ensures.takes c.forget.ensures.table c.forget.ensures.pages c.in-None.ensures.sight
