use Rattle.std.proofs.Common.{◌<◌, arith, subst}
use Rattle.std.specs.Prelude.{IfSome}
use Rattle.pm_free.specs.declared.seats.Seat.{Seat}
use Rattle.pm_free.specs.Seats.{IsSeatIn}
use Rattle.pm_free.proofs.ChainCauses.{found_data}
use Rattle.pm_tests_pages.proofs.free_lists.take_counted.Goals as goal

pub take_from-requires-clause-page : goal.take_from-requires-clause-page
take_from-requires-clause-page g c =
    let b = g.P.Pages.seen c.args.pages.now in
    let d = g.P.Pages.seen c.find_seat.new.pages in
    let at = c.index-at.result in
    let seat = subst (λ o. IfSome o (λ (seat : Seat). (at < c.args.count) × IsSeatIn d at seat)) c.in-Some.is c.in_ok-find_seat.ensures.seat in
    found_data g.P.Pages.tells b d 1 at c.args.count _ (omega (arith, c.if-at-eq0.false)) c.find_seat.ensures.looks c.requires.count seat.0 seat.1
