use Rattle.std.proofs.Common.{◌<◌, ap, subst, refl, inl}
use Rattle.std.specs.Prelude.{IfNone, IfSome, Err}
use Rattle.std.proofs.lemmas.Result.{err_from_is_err_and}
use Rattle.pm_types.specs.declared.page_id.PageId.{PageId}
use Rattle.pm_types.specs.declared.fault.PageFault.TheVariants.{BadPage}
use Rattle.pm_pages.proofs.EditedPages.{looks_then}
use Rattle.pm_free.specs.declared.seats.Seat.{Seat}
use Rattle.pm_free.specs.Seats.{IsNoDataIn, IsSeatIn}
use Rattle.pm_free.specs.Causes.{Names}
use Rattle.pm_free.proofs.ChainCauses.{cause_passed, named_bad, named_other, wrong_head}
use Rattle.pm_free.proofs.buckets.check_head.Goals as goal

pub returns-in_err-find_seat-clause-cause : goal.returns-in_err-find_seat-clause-cause
returns-in_err-find_seat-clause-cause g c =
    let T = g.P.Pages.tells in
    let a = g.P.Pages.seen c.args.pages.now in
    let b = g.P.Pages.seen c.number.new.pages in
    let d = g.P.Pages.seen c.find_seat.new.pages in
    let p = err_from_is_err_and c.from_residual-in_err-find_seat.result c.from_residual-in_err-find_seat.ensures.1 in
    let h = c.requires.head.1 in
    let names : Names a 0 c.args.head.at = inl (refl, c.args.head.bucket, record { few = h.few; is = h.is }) in
    cause_passed T a d c.find_seat.result c.from_residual-in_err-find_seat.result c.in_err-find_seat.field-0.0 p.0 c.in_err-find_seat.was p.1 p.2
    (named_bad T a b d 0 0 c.args.head.at c.find_seat.result c.number.ensures.looks names c.find_seat.ensures.cause)

pub returns-in-None-clause-cause : goal.returns-in-None-clause-cause
returns-in-None-clause-cause g c =
    let T = g.P.Pages.tells in
    let a = g.P.Pages.seen c.args.pages.now in
    let b = g.P.Pages.seen c.number.new.pages in
    let d = g.P.Pages.seen c.find_seat.new.pages in
    let h = c.requires.head.1 in
    let names : Names a 0 c.args.head.at = inl (refl, c.args.head.bucket, record { few = h.few; is = h.is }) in
    named_other T a b d 0 1 0 c.args.head.at c.in_ok-count.count c.part.result _ c.number.ensures.looks c.find_seat.ensures.looks names c.in_ok-count.ensures.number
    (subst (λ o. IfNone o (IsNoDataIn d c.in_ok-count.count c.args.head.at)) c.in-None.is c.in_ok-find_seat.ensures.none) c.part.ensures (ap (λ (i : PageId). Err (BadPage i)) c.new.ensures)

pub returns-then-seat-head-clause-cause : goal.returns-then-seat-head-clause-cause
returns-then-seat-head-clause-cause g c =
    let T = g.P.Pages.tells in
    let a = g.P.Pages.seen c.args.pages.now in
    let b = g.P.Pages.seen c.number.new.pages in
    let d = g.P.Pages.seen c.find_seat.new.pages in
    let h = c.requires.head.1 in
    let seat = subst (λ o. IfSome o (λ (seat : Seat). (c.args.head.at < c.in_ok-count.count) × IsSeatIn d c.args.head.at seat)) c.in-Some.is c.in_ok-find_seat.ensures.seat in
    wrong_head T a d 1 c.args.head.bucket c.args.head.at c.part-then-seat-head.result c.in-Some.seat _ (looks_then T a b d 0 1 c.number.ensures.looks c.find_seat.ensures.looks) (record { few = h.few; is = h.is }) seat.1
    c.if-seat-head.true c.part-then-seat-head.ensures (ap (λ (i : PageId). Err (BadPage i)) c.new-then-seat-head.ensures)
