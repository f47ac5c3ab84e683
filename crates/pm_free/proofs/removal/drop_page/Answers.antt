use Rattle.std.proofs.Common.{inl}
use Rattle.std.proofs.lemmas.Result.{on_ok_weaker}
use Rattle.pm_free.proofs.ChainCauses.{cause_after}
use Rattle.pm_free.proofs.PlacedPages.{both_ok, cause_give, drops_rows}
use Rattle.pm_free.proofs.StoredRows.{given_stored}
use Rattle.pm_free.proofs.SoundRows.{give_not_bad}
use Rattle.pm_free.proofs.removal.drop_page.Goals as goal

pub give_page-requires-clause-room : goal.give_page-requires-clause-room
give_page-requires-clause-room g c = inl ((c.in_ok-unlink.ensures.unlinks.stay c.args.at c.requires.page).is.in_hand.asked)

pub returns-clause-drops : goal.returns-clause-drops
returns-clause-drops g c =
    let T = g.P.Pages.tells in
    let a = g.P.Pages.seen c.args.pages.now in
    let b = g.P.Pages.seen c.unlink.new.pages in
    let d = g.P.Pages.seen c.give_page.new.pages in
    on_ok_weaker c.give_page.result (λ p. drops_rows T a b d c.args.at c.args.bucket c.unlink.ensures.readable c.give_page.ensures.readable c.requires.page c.requires.bucket c.in_ok-unlink.ensures.unlinks p.0 p.1)
    (both_ok c.give_page.result _ _ c.give_page.ensures.gives c.give_page.ensures.again)

pub returns-clause-cause : goal.returns-clause-cause
returns-clause-cause g c =
    let T = g.P.Pages.tells in
    let b = g.P.Pages.seen c.unlink.new.pages in
    let d = g.P.Pages.seen c.give_page.new.pages in
    cause_after T (g.P.Pages.seen c.args.pages.now) b d 2 c.give_page.result c.in_ok-unlink.ensures.unlinks.edits (cause_give T b d c.args.at c.give_page.result c.give_page.ensures.cause)

pub returns-clause-passes : goal.returns-clause-passes
returns-clause-passes g c =
    on_ok_weaker c.give_page.result (λ gives t. given_stored g.P.Pages.tells (g.P.Pages.seen c.unlink.new.pages) (g.P.Pages.seen c.give_page.new.pages) c.args.at c.requires.page.some gives) c.give_page.ensures.gives

pub returns-clause-sound : goal.returns-clause-sound
returns-clause-sound g c = λ home s is.
    let b = g.P.Pages.seen c.unlink.new.pages in
    let unlinks = c.in_ok-unlink.ensures.unlinks in
    give_not_bad g.P.Pages.tells b (g.P.Pages.seen c.give_page.new.pages).faults c.args.at c.give_page.result s.told (unlinks.sound s.told s.sound) unlinks.meta (unlinks.stay c.args.at c.requires.page) c.give_page.ensures.cause
