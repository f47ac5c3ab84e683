use Rattle.std.proofs.Common.{arith}
use Rattle.std.proofs.lemmas.Result.{on_ok_weaker, err_from_is_err_and}
use Rattle.pm_meta.specs.declared.layout.TheConstants.{BUCKETS}
use Rattle.pm_pages.specs.Rows.{Partition}
use Rattle.pm_free.specs.Chained.{MovesPage}
use Rattle.pm_free.proofs.Changed.{data_looked, changes_looked, changes_told, changes_then, changes_as}
use Rattle.pm_free.proofs.ChainCauses.{cause_passed, cause_looked, cause_after}
use Rattle.pm_free.proofs.Settled.{HomeKnown, home_known, settles_there, settles_moved}
use Rattle.pm_pages.proofs.SoundPages.{no_bad_passed}
use Rattle.pm_free.specs.Chained.{with_home}
use Rattle.pm_free.proofs.SoundChains.{chains_looked, chains_moved}
use Rattle.pm_free.proofs.chains.settle.Goals as goal

pub returns-then-seat-bucket-clause-settles : goal.returns-then-seat-bucket-clause-settles
returns-then-seat-bucket-clause-settles g c =
    let T = g.P.Pages.tells in
    let a = g.P.Pages.seen c.args.pages.now in
    let b = g.P.Pages.seen c.seat_at.new.pages in
    let seat = c.in_ok-seat.seat in
    let known = changes_told T a b 0 _ (HomeKnown c.args.at seat.bucket) (changes_looked T a b 0 c.requires.meta c.seat_at.ensures.looks)
    (λ t. home_known T a b 0 c.args.at seat t c.requires.meta c.requires.page c.seat_at.ensures.looks c.in_ok-seat.ensures.seat) in
    changes_as T a b 0 3 _ _ (omega arith) (settles_there c.args.at seat.bucket c.args.bucket c.if-seat-bucket.true) known

pub unlink-requires-clause-page : goal.unlink-requires-clause-page
unlink-requires-clause-page g c =
    data_looked g.P.Pages.tells (g.P.Pages.seen c.args.pages.now) (g.P.Pages.seen c.seat_at.new.pages) 0 c.args.at c.requires.meta c.seat_at.ensures.looks c.requires.page

pub link-requires-clause-page : goal.link-requires-clause-page
link-requires-clause-page g c =
    c.in_ok-unlink.ensures.unlinks.stay c.args.at (data_looked g.P.Pages.tells (g.P.Pages.seen c.args.pages.now) (g.P.Pages.seen c.seat_at.new.pages) 0 c.args.at c.requires.meta c.seat_at.ensures.looks c.requires.page)

pub returns-in_err-unlink-clause-cause : goal.returns-in_err-unlink-clause-cause
returns-in_err-unlink-clause-cause g c =
    let T = g.P.Pages.tells in
    let a = g.P.Pages.seen c.args.pages.now in
    let b = g.P.Pages.seen c.seat_at.new.pages in
    let d = g.P.Pages.seen c.unlink.new.pages in
    let p = err_from_is_err_and c.from_residual-in_err-unlink.result c.from_residual-in_err-unlink.ensures.1 in
    cause_passed T a d c.unlink.result c.from_residual-in_err-unlink.result c.in_err-unlink.field-0.0 p.0 c.in_err-unlink.was p.1 p.2
    (cause_looked T a b d 0 c.unlink.result c.seat_at.ensures.looks c.unlink.ensures.cause)

pub returns-clause-settles : goal.returns-clause-settles
returns-clause-settles g c =
    let T = g.P.Pages.tells in
    let a = g.P.Pages.seen c.args.pages.now in
    let b = g.P.Pages.seen c.seat_at.new.pages in
    let d = g.P.Pages.seen c.unlink.new.pages in
    let e = g.P.Pages.seen c.link.new.pages in
    let seat = c.in_ok-seat.seat in
    let at = c.args.at in
    let known = changes_told T a b 0 _ (HomeKnown at seat.bucket) (changes_looked T a b 0 c.requires.meta c.seat_at.ensures.looks)
    (λ t. home_known T a b 0 at seat t c.requires.meta c.requires.page c.seat_at.ensures.looks c.in_ok-seat.ensures.seat) in
    let first = changes_then T a b d 0 2 _ _ (λ (x z : Partition). (y : Partition) × HomeKnown at seat.bucket x y × MovesPage y z at c.args.bucket BUCKETS) (λ x y z r s. (y, r, s)) known c.in_ok-unlink.ensures.unlinks in
    on_ok_weaker c.link.result (λ links. changes_then T a d e 2 1 _ _ _ (settles_moved at seat.bucket c.args.bucket) first links) c.link.ensures.links

pub returns-clause-cause : goal.returns-clause-cause
returns-clause-cause g c =
    let T = g.P.Pages.tells in
    let a = g.P.Pages.seen c.args.pages.now in
    let b = g.P.Pages.seen c.seat_at.new.pages in
    let d = g.P.Pages.seen c.unlink.new.pages in
    let e = g.P.Pages.seen c.link.new.pages in
    let first = changes_then T a b d 0 2 _ _ (λ (x z : Partition). Unit {0}) (λ x y z r s. tt) (changes_looked T a b 0 c.requires.meta c.seat_at.ensures.looks) c.in_ok-unlink.ensures.unlinks in
    cause_after T a d e 2 c.link.result first.edits c.link.ensures.cause

pub returns-in_err-unlink-clause-sound : goal.returns-in_err-unlink-clause-sound
returns-in_err-unlink-clause-sound g c = λ home s is.
    let T = g.P.Pages.tells in
    let a = g.P.Pages.seen c.args.pages.now in
    let b = g.P.Pages.seen c.seat_at.new.pages in
    let p = err_from_is_err_and c.from_residual-in_err-unlink.result c.from_residual-in_err-unlink.ensures.1 in
    no_bad_passed c.unlink.result c.from_residual-in_err-unlink.result c.in_err-unlink.field-0.0 p.0 c.in_err-unlink.was p.1 p.2
    (c.unlink.ensures.sound home (chains_looked T a b 0 home c.seat_at.ensures.looks s) is)

pub returns-clause-sound : goal.returns-clause-sound
returns-clause-sound g c = λ home s is.
    let T = g.P.Pages.tells in
    let a = g.P.Pages.seen c.args.pages.now in
    let b = g.P.Pages.seen c.seat_at.new.pages in
    let d = g.P.Pages.seen c.unlink.new.pages in
    c.link.ensures.sound (with_home home c.args.at BUCKETS)
    (chains_moved T b d 2 c.args.at c.args.bucket home c.in_ok-unlink.ensures.unlinks (chains_looked T a b 0 home c.seat_at.ensures.looks s) is)
