use Rattle.std.proofs.Common.{ap, subst}
use Rattle.std.specs.Prelude.{IfNone, Err}
use Rattle.pm_types.specs.declared.page_id.PageId.{PageId}
use Rattle.pm_types.specs.declared.fault.PageFault.TheVariants.{BadPage}
use Rattle.pm_free.specs.Seats.{IsNoDataIn}
use Rattle.std.proofs.lemmas.Result.{err_from_is_err_and}
use Rattle.pm_free.proofs.ChainCauses.{cause_passed, named_bad, named_other}
use Rattle.pm_free.proofs.chains.check_named.Goals as goal

pub returns-in_err-find_seat-clause-cause : goal.returns-in_err-find_seat-clause-cause
returns-in_err-find_seat-clause-cause g c =
    let T = g.P.Pages.tells in
    let a = g.P.Pages.seen c.args.pages.now in
    let b = g.P.Pages.seen c.number.new.pages in
    let d = g.P.Pages.seen c.find_seat.new.pages in
    let p = err_from_is_err_and c.from_residual-in_err-find_seat.result c.from_residual-in_err-find_seat.ensures.1 in
    cause_passed T a d c.find_seat.result c.from_residual-in_err-find_seat.result c.in_err-find_seat.field-0.0 p.0 c.in_err-find_seat.was p.1 p.2
    (named_bad T a b d 0 c.args.from c.args.at c.find_seat.result c.number.ensures.looks c.requires.names c.find_seat.ensures.cause)

pub returns-in-None-clause-cause : goal.returns-in-None-clause-cause
returns-in-None-clause-cause g c =
    let T = g.P.Pages.tells in
    let a = g.P.Pages.seen c.args.pages.now in
    let b = g.P.Pages.seen c.number.new.pages in
    let d = g.P.Pages.seen c.find_seat.new.pages in
    named_other T a b d 0 1 c.args.from c.args.at c.in_ok-count.count c.part.result _ c.number.ensures.looks c.find_seat.ensures.looks c.requires.names c.in_ok-count.ensures.number
    (subst (λ o. IfNone o (IsNoDataIn d c.in_ok-count.count c.args.at)) c.in-None.is c.in_ok-find_seat.ensures.none) c.part.ensures (ap (λ (i : PageId). Err (BadPage i)) c.new.ensures)
