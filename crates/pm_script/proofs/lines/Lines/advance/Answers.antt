use Rattle.std.proofs.Common.{inr, true, false, arith, length-append, ◌∙◌, sym}
use Rattle.pm_script.proofs.LaterStates.{later_state}
use Rattle.pm_script.proofs.TakenInput.{takes_on}
use Rattle.pm_script.proofs.WithinLine.{going_filled, going_some, line_taken, ended, over_limit, found_at}
use Rattle.pm_script.proofs.lines.Lines.advance.Goals as goal

pub returns-in_err-some-clause-takes : goal.returns-in_err-some-clause-takes
returns-in_err-some-clause-takes g c t = takes_on _ _ _ (g.H.Device.sound c.pieces.host t) (c.pieces.invariant.takes t) (c.ready.ensures.takes t)

pub returns-then-not-some-clause-takes : goal.returns-then-not-some-clause-takes
returns-then-not-some-clause-takes g c t = takes_on _ _ _ (g.H.Device.sound c.pieces.host t) (c.pieces.invariant.takes t) (c.ready.ensures.takes t)

pub returns-then-not-has_room-clause-takes : goal.returns-then-not-has_room-clause-takes
returns-then-not-has_room-clause-takes g c t = takes_on _ _ _ (g.H.Device.sound c.pieces.host t) (c.pieces.invariant.takes t) (c.ready.ensures.takes t)

pub returns-then-found-clause-takes : goal.returns-then-found-clause-takes
returns-then-found-clause-takes g c t = takes_on _ _ _ (g.H.Device.sound c.pieces.host t) (c.pieces.invariant.takes t) (c.ready.ensures.takes t)

pub returns-then-not-some-clause-next : goal.returns-then-not-some-clause-next
returns-then-not-some-clause-next g c t =
    let going = going_filled (c.pieces.invariant.going t) c.ready.ensures.line (c.in_ok-some.ensures.rest t) in
    ended (g.H.Device.history c.ready.new.host).world.input c.end.result going (c.in_ok-some.ensures.none t c.if-not-some.true) c.end.ensures.limit c.end.ensures.none c.end.ensures.some

pub returns-then-not-has_room-clause-next : goal.returns-then-not-has_room-clause-next
returns-then-not-has_room-clause-next g c t =
    let going = going_filled (c.pieces.invariant.going t) c.ready.ensures.line (c.in_ok-some.ensures.rest t) in
    over_limit going (c.has_room.ensures.none c.if-not-has_room.true) (omega (arith, c.in_ok-some.ensures.some c.if-not-some.false, length-append c.ready.new.self.pending (g.H.Device.history c.ready.new.host).world.input))

pub returns-then-found-clause-next : goal.returns-then-found-clause-next
returns-then-found-clause-next g c t =
    let going = going_filled (c.pieces.invariant.going t) c.ready.ensures.line (c.in_ok-some.ensures.rest t) in
    let takes = (found_at c.ready.new.self c.take_part-found.new.self true c.if-found.true c.take_part-found.ensures.taken).1 in
    line_taken _ c.kind.result going takes c.kind.ensures (c.has_room.ensures.room c.if-not-has_room.false).0 c.take_part-found.ensures.limit

pub pieces-preserved : goal.pieces-preserved
pieces-preserved g c =
    let takes = (found_at c.ready.new.self c.take_part-found.new.self false c.if-found.false c.take_part-found.ensures.taken).1 in
    let room = c.has_room.ensures.room c.if-not-has_room.false in
    record {
      same_lines = takes.lines ∙ c.ready.ensures.line.lines ∙ c.pieces.invariant.same_lines;
      is_open = takes.is_open;
      counted = inr (omega (arith, room.0, takes.lines));
      state = later_state _ _ _ c.ready.result c.pieces.invariant.state c.ready.ensures.cause;
      end = λ t ended. c.in_ok-some.ensures.end t (sym takes.is_ended ∙ ended);
      takes = λ t. takes_on _ _ _ (g.H.Device.sound c.pieces.host t) (c.pieces.invariant.takes t) (c.ready.ensures.takes t);
      going = λ t. going_some _ (going_filled (c.pieces.invariant.going t) c.ready.ensures.line (c.in_ok-some.ensures.rest t)) takes room.0;
    }
