use Rattle.std.proofs.Common.{Bool, sym, subst}
use Rattle.pm_flush.specs.Steps.{TriesPage}
use Rattle.std.specs.Prelude.{None}
use Rattle.pm_flush.proofs.Trying.{leaves_moved, leaves_busy, takes_frame}
use Rattle.pm_flush.proofs.one_page.write_frame.Goals as goal

pub returns-in-Got-clause-tries : goal.returns-in-Got-clause-tries
returns-in-Got-clause-tries g c =
    let v = c.args.seat.now.view in let v' = c.flush_take.new.seat.view in let v'' = c.flush_put.new.seat.view in
    subst (λ (asked : Bool). TriesPage None asked v v'' c.args.due) (sym c.write_bytes-written.ensures.asked)
    (takes_frame v v' v'' c.args.due c.in-Got.lease c.requires.seat.has c.in-Got.ensures.answer c.flush_put.ensures.put)

pub returns-in-Moved-clause-tries : goal.returns-in-Moved-clause-tries
returns-in-Moved-clause-tries g c = leaves_moved c.args.seat.now.view c.flush_take.new.seat.view c.args.due c.in-Moved.ensures.answer

pub returns-in-Busy-clause-tries : goal.returns-in-Busy-clause-tries
returns-in-Busy-clause-tries g c = leaves_busy c.args.seat.now.view c.flush_take.new.seat.view c.args.due _ c.in-Busy.ensures.answer
