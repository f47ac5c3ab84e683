use Rattle.std.proofs.Common.{take}
use Rattle.pm_disk.specs.States.{IsLaterState}
use Rattle.pm_flush.specs.Done.{KeepsRoom}
use Rattle.pm_flush.specs.Seats.{StaysFlusher}
use Rattle.pm_flush.proofs.Progress.{Progress}
use Rattle.pm_flush.proofs.Writing.{Wrote}
use Rattle.pm_flush.proofs.flushing.flush.Given as goal

abbrev pub invariant-pages : goal.invariant-pages
invariant-pages g l =
    let part = take l.due-index l.job in
    record {
      seat : StaysFlusher l.locks l.fn.seat l.seat;
      state : IsLaterState (g.W.Device.state l.fn.writer) (g.W.Device.state l.writer);
      room : KeepsRoom l.fn.done l.done;
      progress : Progress l.fn.seat.view l.seat.view l.copies.pages part l.done.written.items l.done.left.items;
      wrote : g.W.Device.tells
          → Wrote (g.W.Device.history l.fn.writer) (g.W.Device.history l.writer) l.copies.pages l.fn.seat.view part l.done.written.items;
    }
