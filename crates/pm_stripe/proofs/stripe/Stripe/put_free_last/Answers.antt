use Rattle.std.proofs.Common.{ap, arith, length, length-append, [], ◌∷◌}
use Rattle.std.specs.Vec.{vec_capacity}
use Rattle.pm_stripe.specs.Stripes.{kept}
use Rattle.pm_stripe.proofs.FreedFrames.{last_free, is_own, is_same, may_put, own_sight, frees_last}
use Rattle.pm_stripe.proofs.stripe.Stripe.put_free_last.Goals as goal

pub own_put-requires-clause-frame : goal.own_put-requires-clause-frame
own_put-requires-clause-frame c = (last_free c.args.locks.now (kept c.args.self.now c.args.seat.now) c.requires.holds c.pop.new.self.items c.in-Some.free c.in-Some.ensures.items).frame

pub own_put-requires-clause-out : goal.own_put-requires-clause-out
own_put-requires-clause-out c = is_own c.args.locks.now (kept c.args.self.now c.args.seat.now) c.requires.holds c.pop.new.self.items c.in-Some.free c.in-Some.ensures.items

pub own_put-requires-clause-lease : goal.own_put-requires-clause-lease
own_put-requires-clause-lease c = is_same c.args.locks.now (kept c.args.self.now c.args.seat.now) c.requires.holds c.pop.new.self.items c.in-Some.free c.in-Some.ensures.items

pub own_put-requires-clause-flag : goal.own_put-requires-clause-flag
own_put-requires-clause-flag c = may_put c.args.locks.now (kept c.args.self.now c.args.seat.now) c.requires.holds c.pop.new.self.items c.in-Some.free c.in-Some.ensures.items

pub returns-clause-frees : goal.returns-clause-frees
returns-clause-frees c =
    frees_last c.args.locks.now (kept c.args.self.now c.args.seat.now) c.requires.holds c.pop.new.self.items c.in-Some.free c.in-Some.ensures.items
    c.own_put.new.seat (vec_capacity c.pop.new.self) (omega (arith, c.pop.ensures.capacity, c.requires.holds.free_room)) c.own_put.ensures.seat c.own_put.ensures.put
    (own_sight c.args.locks.now (kept c.args.self.now c.args.seat.now) c.requires.holds c.pop.new.self.items c.in-Some.free c.in-Some.ensures.items c.own_put.new.seat c.own_put.ensures.put c.own_put.ensures.knows)

pub returns-clause-count : goal.returns-clause-count
returns-clause-count c = omega (arith, ap length c.in-Some.ensures.items, length-append c.pop.new.self.items (c.in-Some.free ∷ []))
