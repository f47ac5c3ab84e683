use Rattle.std.proofs.Common.{List, [], ◌∷◌, ◌++◌, length, true, refl, sym, ap, subst, ◌∙◌, arith}
use Rattle.std.specs.Vec.{vec_capacity}
use Rattle.pm_stripe.specs.declared.held.Free.{Free}
use Rattle.pm_stripe.specs.Met.{MeetsFrame}
use Rattle.pm_stripe.specs.Steals.{StealsFrame}
use Rattle.pm_stripe.specs.Stripes.{kept}
use Rattle.pm_stripe.proofs.MetFrames.{got_meets, not_meets}
use Rattle.pm_stripe.proofs.SettledFrames.{stolen_sight, not_sight}
use Rattle.pm_stripe.proofs.StolenFrames.{stolen_long, got_one, not_one}
use Rattle.pm_stripe.proofs.stripe.Stripe.steal_one.Goals as goal

pub returns-in-Not-clause-steals : goal.returns-in-Not-clause-steals
returns-in-Not-clause-steals c = not_one c.args.locks.now (kept c.args.self.now c.args.seat.now) c.args.frame c.steal.new.seat _ c.requires.holds c.steal.ensures.seat c.in-Not.ensures.answer

pub returns-in-Got-clause-steals : goal.returns-in-Got-clause-steals
returns-in-Got-clause-steals c =
    let k = kept c.args.self.now c.args.seat.now in
    let got = c.in-Got.ensures.answer in
    let P : List Free → Type 0 = λ fs. StealsFrame c.args.locks.now k (record k { seat = c.steal.new.seat; places = c.forget.new.self; free = fs; free_room = vec_capacity c.push_reserved.new.self }) c.args.frame true in
    subst P (sym c.push_reserved.ensures.items)
    (got_one c.args.locks.now k c.requires.holds c.args.frame c.in-Got.tag c.in-Got.lease c.steal.new.seat c.forget.new.self (vec_capacity c.push_reserved.new.self) (omega (arith, c.push_reserved.ensures.capacity, c.requires.holds.free_room))
    c.requires.frame c.in-Got.ensures.seat got
    (stolen_long c.args.locks.now k c.steal.new.seat.view c.args.frame c.in-Got.tag c.in-Got.lease c.requires.holds c.requires.frame got (ap length (sym c.bytes-len.ensures.bytes) ∙ c.bytes-len.ensures.len)) c.forget.ensures.table c.forget.ensures.pages)

pub returns-in-Not-clause-meets : goal.returns-in-Not-clause-meets
returns-in-Not-clause-meets c = not_meets c.args.locks.now (kept c.args.self.now c.args.seat.now) c.requires.holds c.args.frame (kept c.args.self.now c.steal.new.seat) refl refl _ c.in-Not.ensures.answer

pub returns-in-Got-clause-meets : goal.returns-in-Got-clause-meets
returns-in-Got-clause-meets c =
    let k = kept c.args.self.now c.args.seat.now in
    let new : Free = record { frame = c.args.frame; tag = c.in-Got.tag; lease = c.in-Got.lease } in
    let P : List Free → Type 0 = λ fs. MeetsFrame k (record k { seat = c.steal.new.seat; places = c.forget.new.self; free = fs; free_room = vec_capacity c.push_reserved.new.self }) c.args.frame true in
    subst P (sym c.push_reserved.ensures.items)
    (got_meets c.args.locks.now k c.requires.holds c.args.frame (record k { seat = c.steal.new.seat; places = c.forget.new.self; free = c.args.self.now.free.items ++ new ∷ []; free_room = vec_capacity c.push_reserved.new.self })
    c.in-Got.lease c.in-Got.tag c.in-Got.ensures.answer (record { frame = new; added = refl; is = refl }))

pub returns-in-Not-clause-sight : goal.returns-in-Not-clause-sight
returns-in-Not-clause-sight c = not_sight c.args.locks.now c.args.seat.now.view c.steal.new.seat.view c.args.self.now.number c.args.frame _ c.requires.frame c.steal.ensures.knows c.in-Not.ensures.answer

pub returns-in-Got-clause-sight : goal.returns-in-Got-clause-sight
returns-in-Got-clause-sight c =
    let w = c.requires.holds.worker in
    stolen_sight c.args.locks.now c.args.seat.now.view c.steal.new.seat.view c.args.self.now.number c.args.frame c.in-Got.tag c.in-Got.lease c.requires.frame (omega (arith, w.below, w.seat_of.staff)) c.in-Got.ensures.knows c.in-Got.ensures.answer
