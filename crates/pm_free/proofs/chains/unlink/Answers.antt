use Rattle.std.proofs.lemmas.Result.{on_ok_weaker, err_from_is_err_and}
use Rattle.pm_pages.proofs.EditedPages.{looks_then}
use Rattle.pm_free.proofs.Changed.{data_looked, meta_is, changes_looked, changes_told, changes_then}
use Rattle.pm_free.proofs.ChainCauses.{cause_passed, cause_looked}
use Rattle.pm_free.proofs.Neighbours.{SeatKnown, seat_known, moves_out}
use Rattle.pm_pages.proofs.SoundPages.{no_bad_passed}
use Rattle.pm_free.proofs.SoundChains.{neighbours_data, chains_looked}
use Rattle.pm_free.proofs.chains.unlink.Goals as goal

pub returns-in_err-check_named-clause-cause : goal.returns-in_err-check_named-clause-cause
returns-in_err-check_named-clause-cause g c =
    let T = g.P.Pages.tells in
    let a = g.P.Pages.seen c.args.pages.now in
    let b = g.P.Pages.seen c.seat_at.new.pages in
    let d = g.P.Pages.seen c.check_named.new.pages in
    let p = err_from_is_err_and c.from_residual-in_err-check_named.result c.from_residual-in_err-check_named.ensures.1 in
    cause_passed T a d c.check_named.result c.from_residual-in_err-check_named.result c.in_err-check_named.field-0.0 p.0 c.in_err-check_named.was p.1 p.2
    (cause_looked T a b d 0 c.check_named.result c.seat_at.ensures.looks c.check_named.ensures.cause)

pub returns-in_err-check_named-2-clause-cause : goal.returns-in_err-check_named-2-clause-cause
returns-in_err-check_named-2-clause-cause g c =
    let T = g.P.Pages.tells in
    let a = g.P.Pages.seen c.args.pages.now in
    let b = g.P.Pages.seen c.seat_at.new.pages in
    let d = g.P.Pages.seen c.check_named.new.pages in
    let e = g.P.Pages.seen c.check_named-2.new.pages in
    let p = err_from_is_err_and c.from_residual-in_err-check_named-2.result c.from_residual-in_err-check_named-2.ensures.1 in
    cause_passed T a e c.check_named-2.result c.from_residual-in_err-check_named-2.result c.in_err-check_named-2.field-0.0 p.0 c.in_err-check_named-2.was p.1 p.2
    (cause_looked T a d e 1 c.check_named-2.result (looks_then T a b d 0 1 c.seat_at.ensures.looks c.check_named.ensures.looks) c.check_named-2.ensures.cause)

pub pass_by-requires-clause-prev : goal.pass_by-requires-clause-prev
pass_by-requires-clause-prev g c = λ some.
    let T = g.P.Pages.tells in
    let a = g.P.Pages.seen c.args.pages.now in
    let b = g.P.Pages.seen c.seat_at.new.pages in
    let d = g.P.Pages.seen c.check_named.new.pages in
    let e = g.P.Pages.seen c.check_named-2.new.pages in
    data_looked T d e 1 c.in_ok-seat.seat.prev (meta_is T a d 1 c.requires.meta (looks_then T a b d 0 1 c.seat_at.ensures.looks c.check_named.ensures.looks)) c.check_named-2.ensures.looks (c.in_ok-check_named.ensures.page some)

pub returns-clause-unlinks : goal.returns-clause-unlinks
returns-clause-unlinks g c =
    let T = g.P.Pages.tells in
    let a = g.P.Pages.seen c.args.pages.now in
    let b = g.P.Pages.seen c.seat_at.new.pages in
    let d = g.P.Pages.seen c.check_named.new.pages in
    let e = g.P.Pages.seen c.check_named-2.new.pages in
    let f = g.P.Pages.seen c.pass_by.new.pages in
    let looks = looks_then T a d e 1 1 (looks_then T a b d 0 1 c.seat_at.ensures.looks c.check_named.ensures.looks) c.check_named-2.ensures.looks in
    let seat = c.in_ok-seat.seat in
    let known = changes_told T a e 2 _ (SeatKnown c.args.at seat.prev seat.next) (changes_looked T a e 2 c.requires.meta looks)
    (λ t. seat_known T a b e 0 2 c.args.at seat t c.requires.meta c.requires.page c.seat_at.ensures.looks c.in_ok-seat.ensures.seat looks c.in_ok-check_named-2.ensures.page) in
    on_ok_weaker c.pass_by.result (λ passes. changes_then T a e f 2 0 _ _ _ (moves_out c.args.at c.args.bucket seat.prev seat.next c.requires.bucket) known passes) c.pass_by.ensures.passes

pub returns-in_err-check_named-clause-sound : goal.returns-in_err-check_named-clause-sound
returns-in_err-check_named-clause-sound g c = λ home s is.
    let T = g.P.Pages.tells in
    let a = g.P.Pages.seen c.args.pages.now in
    let b = g.P.Pages.seen c.seat_at.new.pages in
    let looks = c.seat_at.ensures.looks in
    let p = err_from_is_err_and c.from_residual-in_err-check_named.result c.from_residual-in_err-check_named.ensures.1 in
    let named = neighbours_data T a b b 0 0 c.args.at c.args.bucket home c.in_ok-seat.seat c.requires.bucket s is c.requires.meta c.requires.page looks c.in_ok-seat.ensures.seat looks in
    no_bad_passed c.check_named.result c.from_residual-in_err-check_named.result c.in_err-check_named.field-0.0 p.0 c.in_err-check_named.was p.1 p.2
    (c.check_named.ensures.sound s.told (chains_looked T a b 0 home looks s).sound named.0)

pub returns-in_err-check_named-2-clause-sound : goal.returns-in_err-check_named-2-clause-sound
returns-in_err-check_named-2-clause-sound g c = λ home s is.
    let T = g.P.Pages.tells in
    let a = g.P.Pages.seen c.args.pages.now in
    let b = g.P.Pages.seen c.seat_at.new.pages in
    let d = g.P.Pages.seen c.check_named.new.pages in
    let looks = looks_then T a b d 0 1 c.seat_at.ensures.looks c.check_named.ensures.looks in
    let p = err_from_is_err_and c.from_residual-in_err-check_named-2.result c.from_residual-in_err-check_named-2.ensures.1 in
    let named = neighbours_data T a b d 0 1 c.args.at c.args.bucket home c.in_ok-seat.seat c.requires.bucket s is c.requires.meta c.requires.page c.seat_at.ensures.looks c.in_ok-seat.ensures.seat looks in
    no_bad_passed c.check_named-2.result c.from_residual-in_err-check_named-2.result c.in_err-check_named-2.field-0.0 p.0 c.in_err-check_named-2.was p.1 p.2
    (c.check_named-2.ensures.sound s.told (chains_looked T a d 1 home looks s).sound named.1)

pub returns-clause-kept : goal.returns-clause-kept
returns-clause-kept g c =
    let k = g.met.P.Pages.kept_then in
    k c.args.pages.now c.check_named-2.new.pages c.pass_by.new.pages
    (k c.args.pages.now c.check_named.new.pages c.check_named-2.new.pages (k c.args.pages.now c.seat_at.new.pages c.check_named.new.pages c.seat_at.ensures.kept c.check_named.ensures.kept) c.check_named-2.ensures.kept)
    c.pass_by.ensures.kept
