use Rattle.std.proofs.Common.{List, refl, sym, ap, subst, arith, length-append, length, [], ◌∷◌}
use Rattle.std.specs.Vec.{vec_capacity}
use Rattle.pm_stripe.specs.declared.held.Free.{Free}
use Rattle.pm_stripe.specs.GivenUp.{GivesUpHeld}
use Rattle.pm_stripe.specs.Stripes.{kept}
use Rattle.pm_stripe.proofs.GivenPages.{are_covered, same_flag, last_unlent, last_bare, last_is, gives_put, gives_bare, room_for_one}
use Rattle.pm_stripe.proofs.PutPages.{last_held, is_own, is_same, may_put, empty_before, own_sight, returned}
use Rattle.pm_stripe.proofs.stripe.Stripe.give_up_last.Goals as goal

pub push_reserved-requires : goal.push_reserved-requires
push_reserved-requires c =
    let k = kept c.args.self.now c.args.seat.now in
    omega (arith, room_for_one k c.pop.new.self.items c.in-Some.held c.in-Some.ensures.items c.if-is_read.true c.requires.few, c.requires.holds.free_room)

pub own_put-requires-clause-frame : goal.own_put-requires-clause-frame
own_put-requires-clause-frame c = (last_held c.args.locks.now (kept c.args.self.now c.args.seat.now) c.requires.holds c.pop.new.self.items c.in-Some.held c.in-Some.ensures.items).frame

pub own_put-requires-clause-out : goal.own_put-requires-clause-out
own_put-requires-clause-out c = is_own c.args.locks.now (kept c.args.self.now c.args.seat.now) c.requires.holds c.pop.new.self.items c.in-Some.held c.in-Some.ensures.items

pub own_put-requires-clause-lease : goal.own_put-requires-clause-lease
own_put-requires-clause-lease c = is_same c.args.locks.now (kept c.args.self.now c.args.seat.now) c.requires.holds c.pop.new.self.items c.in-Some.held c.in-Some.ensures.items

pub own_put-requires-clause-flag : goal.own_put-requires-clause-flag
own_put-requires-clause-flag c =
    let k = kept c.args.self.now c.args.seat.now in
    let h = c.in-Some.held in
    let bare = last_bare c.args.locks.now k c.requires.holds c.pop.new.self.items h c.in-Some.ensures.items c.requires.unlent in
    let unlent = last_unlent c.args.locks.now k c.requires.holds c.pop.new.self.items h c.in-Some.ensures.items c.requires.unlent in
    may_put c.args.locks.now k c.requires.holds c.pop.new.self.items h c.in-Some.ensures.items (λ i g at stay. are_covered c.args.locks.now k c.requires.holds c.requires.unlent i g at) h.flag (same_flag h bare unlent c.if-is_read.false)

pub returns-then-is_read-clause-gives : goal.returns-then-is_read-clause-gives
returns-then-is_read-clause-gives c =
    let k = kept c.args.self.now c.args.seat.now in
    let h = c.in-Some.held in
    let P : List Free → Type 0 = λ fs. GivesUpHeld c.args.locks.now k (record k { held = c.pop.new.self.items; held_room = vec_capacity c.pop.new.self; free = fs; free_room = vec_capacity c.push_reserved.new.self }) in
    subst P (sym c.push_reserved.ensures.items)
    (gives_bare c.args.locks.now k c.requires.holds c.pop.new.self.items h c.in-Some.ensures.items c.requires.unlent c.if-is_read.true (vec_capacity c.pop.new.self) (omega (arith, c.pop.ensures.capacity, c.requires.holds.held_room))
    (vec_capacity c.push_reserved.new.self) (omega (arith, c.push_reserved.ensures.capacity, c.requires.holds.free_room)))

pub returns-clause-gives : goal.returns-clause-gives
returns-clause-gives c =
    let k = kept c.args.self.now c.args.seat.now in
    let h = c.in-Some.held in
    let list = c.in-Some.ensures.items in
    let bare = last_bare c.args.locks.now k c.requires.holds c.pop.new.self.items h list c.requires.unlent in
    let unlent = last_unlent c.args.locks.now k c.requires.holds c.pop.new.self.items h list c.requires.unlent in
    let from = (last_is c.args.locks.now k c.requires.holds c.pop.new.self.items h list c.requires.unlent).from_frame c.if-is_read.false in
    let y = c.requires.holds.kept h.page h.frame h.tag from.kept in
    gives_put c.args.locks.now k c.requires.holds c.pop.new.self.items h list c.requires.unlent (kept (record c.args.self.now { held = c.pop.new.self }) c.own_put.new.seat) refl
    (returned c.args.locks.now k c.requires.holds c.pop.new.self.items h list h.flag (same_flag h bare unlent c.if-is_read.false) c.own_put.new.seat (vec_capacity c.pop.new.self) (omega (arith, c.pop.ensures.capacity, c.requires.holds.held_room))
    c.own_put.ensures.seat c.own_put.ensures.put (own_sight c.args.locks.now k c.requires.holds c.pop.new.self.items h list h.flag (same_flag h bare unlent c.if-is_read.false) c.own_put.new.seat c.own_put.ensures.put c.own_put.ensures.knows) (λ e. y.some (empty_before y.entry.flag h.flag (from.follows y.entry y.at) e)) c.if-is_read.false)
    c.if-is_read.false

pub returns-then-is_read-clause-count : goal.returns-then-is_read-clause-count
returns-then-is_read-clause-count c = omega (arith, ap length c.in-Some.ensures.items, length-append c.pop.new.self.items (c.in-Some.held ∷ []))

pub returns-clause-count : goal.returns-clause-count
returns-clause-count c = omega (arith, ap length c.in-Some.ensures.items, length-append c.pop.new.self.items (c.in-Some.held ∷ []))
