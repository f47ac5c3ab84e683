use Rattle.std.proofs.Common.{sym, ◌∙◌, arith}
use Rattle.pm_stripe.specs.Stripes.{kept}
use Rattle.pm_stripe.proofs.PutPages.{last_held, is_own, is_same, may_put, empty_is, some_is, own_sight, forgot, placed, returned}
use Rattle.std.specs.Vec.{vec_capacity}
use Rattle.pm_stripe.proofs.stripe.Stripe.put_last.Goals as goal

pub own_put-requires-clause-frame : goal.own_put-requires-clause-frame
own_put-requires-clause-frame c = (last_held c.args.locks.now (kept c.args.self.now c.args.seat.now) c.requires.holds c.pop.new.self.items c.in-Some.held c.in-Some.ensures.items).frame

pub own_put-requires-clause-out : goal.own_put-requires-clause-out
own_put-requires-clause-out c = is_own c.args.locks.now (kept c.args.self.now c.args.seat.now) c.requires.holds c.pop.new.self.items c.in-Some.held c.in-Some.ensures.items

pub own_put-requires-clause-lease : goal.own_put-requires-clause-lease
own_put-requires-clause-lease c = is_same c.args.locks.now (kept c.args.self.now c.args.seat.now) c.requires.holds c.pop.new.self.items c.in-Some.held c.in-Some.ensures.items

pub own_put-requires-clause-flag : goal.own_put-requires-clause-flag
own_put-requires-clause-flag c = may_put c.args.locks.now (kept c.args.self.now c.args.seat.now) c.requires.holds c.pop.new.self.items c.in-Some.held c.in-Some.ensures.items c.requires.covered c.put_flag-now.result c.put_flag-now.ensures

pub forget-requires : goal.forget-requires
forget-requires c = let x = (last_held c.args.locks.now (kept c.args.self.now c.args.seat.now) c.requires.holds c.pop.new.self.items c.in-Some.held c.in-Some.ensures.items).frame in omega (arith, x, c.requires.holds.many)

pub put-requires-clause-empty : goal.put-requires-clause-empty
put-requires-clause-empty c = ((last_held c.args.locks.now (kept c.args.self.now c.args.seat.now) c.requires.holds c.pop.new.self.items c.in-Some.held c.in-Some.ensures.items).from_file c.if-is_read.true).bare

pub put-requires-clause-unnamed : goal.put-requires-clause-unnamed
put-requires-clause-unnamed c = ((last_held c.args.locks.now (kept c.args.self.now c.args.seat.now) c.requires.holds c.pop.new.self.items c.in-Some.held c.in-Some.ensures.items).from_file c.if-is_read.true).unkept

pub returns-then-is_empty-clause-puts : goal.returns-then-is_empty-clause-puts
returns-then-is_empty-clause-puts c =
    forgot c.args.locks.now (kept c.args.self.now c.args.seat.now) c.requires.holds c.pop.new.self.items c.in-Some.held c.in-Some.ensures.items c.forget.new.self c.forget.ensures.table c.forget.ensures.pages
    c.put_flag-now.result c.put_flag-now.ensures c.own_put.new.seat (vec_capacity c.pop.new.self) (omega (arith, c.pop.ensures.capacity, c.requires.holds.held_room)) c.own_put.ensures.seat c.own_put.ensures.put (own_sight c.args.locks.now (kept c.args.self.now c.args.seat.now) c.requires.holds c.pop.new.self.items c.in-Some.held c.in-Some.ensures.items c.put_flag-now.result c.put_flag-now.ensures c.own_put.new.seat c.own_put.ensures.put c.own_put.ensures.knows)
    (empty_is c.put_flag-now.result (sym c.is_empty.ensures ∙ c.if-is_empty.true))

pub returns-then-is_read-clause-puts : goal.returns-then-is_read-clause-puts
returns-then-is_read-clause-puts c =
    placed c.args.locks.now (kept c.args.self.now c.args.seat.now) c.requires.holds c.pop.new.self.items c.in-Some.held c.in-Some.ensures.items c.put.new.self c.put.ensures.table c.put.ensures.pages
    c.put_flag-now.result c.put_flag-now.ensures c.own_put.new.seat (vec_capacity c.pop.new.self) (omega (arith, c.pop.ensures.capacity, c.requires.holds.held_room)) c.own_put.ensures.seat c.own_put.ensures.put (own_sight c.args.locks.now (kept c.args.self.now c.args.seat.now) c.requires.holds c.pop.new.self.items c.in-Some.held c.in-Some.ensures.items c.put_flag-now.result c.put_flag-now.ensures c.own_put.new.seat c.own_put.ensures.put c.own_put.ensures.knows)
    (some_is c.put_flag-now.result (sym c.is_empty.ensures ∙ c.if-is_empty.false))

pub returns-clause-puts : goal.returns-clause-puts
returns-clause-puts c =
    returned c.args.locks.now (kept c.args.self.now c.args.seat.now) c.requires.holds c.pop.new.self.items c.in-Some.held c.in-Some.ensures.items
    c.put_flag-now.result c.put_flag-now.ensures c.own_put.new.seat (vec_capacity c.pop.new.self) (omega (arith, c.pop.ensures.capacity, c.requires.holds.held_room)) c.own_put.ensures.seat c.own_put.ensures.put (own_sight c.args.locks.now (kept c.args.self.now c.args.seat.now) c.requires.holds c.pop.new.self.items c.in-Some.held c.in-Some.ensures.items c.put_flag-now.result c.put_flag-now.ensures c.own_put.new.seat c.own_put.ensures.put c.own_put.ensures.knows)
    (some_is c.put_flag-now.result (sym c.is_empty.ensures ∙ c.if-is_empty.false)) c.if-is_read.false
