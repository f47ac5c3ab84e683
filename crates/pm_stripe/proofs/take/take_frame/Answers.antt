use Rattle.pm_stripe.specs.SightLaws.{sight_refl, sight_then}
use Rattle.pm_stripe.proofs.SettledFrames.{got_sight, gone_sight, busy_sight}
use Rattle.pm_stripe.proofs.Tries.{tries_none, tries_then, busy_only, takes_frame, loses_frame}
use Rattle.pm_stripe.proofs.take.take_frame.Goals as goal

pub tries-init : goal.tries-init
tries-init g c = record { seat = c.requires.seat; tries = tries_none c.args.seat.now.view; sight = sight_refl c.args.locks.now c.args.seat.now.view }

pub own_take-requires-clause-seat : goal.own_take-requires-clause-seat
own_take-requires-clause-seat g c = c.tries.invariant.seat

pub returns-in-Got-clause-takes : goal.returns-in-Got-clause-takes
returns-in-Got-clause-takes g c = takes_frame c.args.seat.now.view c.tries.seat.view c.own_take.new.seat.view c.args._number c.args.frame c.args.tag c.in-Got.lease c.in-Got.flag c.tries.invariant.tries c.requires.put c.in-Got.ensures.answer c.in-Got.ensures.last

pub returns-in-Gone-clause-takes : goal.returns-in-Gone-clause-takes
returns-in-Gone-clause-takes g c = loses_frame c.args.seat.now.view c.tries.seat.view c.own_take.new.seat.view c.args._number c.args.frame c.args.tag c.tries.invariant.tries c.requires.put c.in-Gone.ensures.answer

pub tries-preserved : goal.tries-preserved
tries-preserved g c = record { seat = c.in-Busy.ensures.seat; tries = tries_then c.args.seat.now.view c.tries.seat.view c.own_take.new.seat.view c.tries.invariant.tries (busy_only c.tries.seat.view c.own_take.new.seat.view c.args.frame c.in-Busy.field-0 c.in-Busy.ensures.answer.1); sight = sight_then c.args.locks.now c.args.seat.now.view c.tries.seat.view c.own_take.new.seat.view c.tries.invariant.sight (busy_sight c.args.locks.now c.tries.seat.view c.own_take.new.seat.view c.args.frame c.in-Busy.field-0 c.requires.frame c.in-Busy.ensures.knows c.in-Busy.ensures.answer.1) }

pub returns-in-Got-clause-sight : goal.returns-in-Got-clause-sight
returns-in-Got-clause-sight g c =
    sight_then c.args.locks.now c.args.seat.now.view c.tries.seat.view c.own_take.new.seat.view c.tries.invariant.sight
    (got_sight c.args.locks.now c.tries.seat.view c.own_take.new.seat.view c.args.frame c.args.tag c.in-Got.lease c.in-Got.flag c.requires.frame c.in-Got.ensures.knows c.in-Got.ensures.answer)

pub returns-in-Gone-clause-sight : goal.returns-in-Gone-clause-sight
returns-in-Gone-clause-sight g c =
    sight_then c.args.locks.now c.args.seat.now.view c.tries.seat.view c.own_take.new.seat.view c.tries.invariant.sight
    (gone_sight c.args.locks.now c.tries.seat.view c.own_take.new.seat.view c.args.frame c.args.tag c.requires.frame c.in-Gone.ensures.knows c.in-Gone.ensures.answer)
