use Rattle.std.proofs.lemmas.Result.{IfOk-weaker}
use Rattle.pm_tree_del.proofs.WrittenPages.{copies_family, pair_mended, all_looks, mend_cause_looked}
use Rattle.std.proofs.Common.{◌+◌, sym, ◌∙◌, arith}
use Rattle.std.proofs.lemmas.Result.{err_from_is_err_and}
use Rattle.pm_meta.specs.declared.slots.MetaSlot.TheVariants.{Pages}
use Rattle.pm_pages.proofs.EditedPages.{looks_then}
use Rattle.pm_pages.proofs.ToldPages.{number_told}
use Rattle.pm_tree_del.proofs.WrittenPages.{can_looked}
use Rattle.pm_pages.proofs.SoundPages.{sound_looked, sound_not_bad, no_bad_passed}
use Rattle.pm_tree_del.proofs.SoundRemovals.{stand_looked}
use Rattle.pm_tree_del.proofs.mending.mend_over.Goals as goal

pub returns-clause-mends : goal.returns-clause-mends
returns-clause-mends g c =
    let T = g.P.Pages.tells in
    let a = g.P.Pages.seen c.args.pages.now in
    let b = g.P.Pages.seen c.copy_page.new.pages in
    let m = g.P.Pages.seen c.copy_page-2.new.pages in
    let d = g.P.Pages.seen c.copy_page-3.new.pages in
    let e = g.P.Pages.seen c.mend_copied.new.pages in
    let family = copies_family T a b m d c.args.at c.args.pair.now c.copy_page.new.into c.copy_page-2.new.into c.copy_page-3.new.into c.requires.pair c.copy_page.ensures.again c.copy_page-2.ensures.looks c.copy_page-2.ensures.again c.copy_page-3.ensures.looks c.copy_page-3.ensures.again
    c.in_ok-copy_page.ensures.copied c.in_ok-copy_page-2.ensures.copied c.in_ok-copy_page-3.ensures.copied in
    IfOk-weaker c.mend_copied.result _ _ (λ few mends. pair_mended T a b m d c.args.at c.args.pair.now c.copy_page.new.into c.copy_page-2.new.into c.copy_page-3.new.into c.requires.pair c.copy_page.ensures.again c.copy_page-2.ensures.looks c.copy_page-2.ensures.again c.copy_page-3.ensures.looks c.copy_page-3.ensures.again
    e few c.requires.meta family mends) c.mend_copied.ensures.mends

pub returns-clause-cause : goal.returns-clause-cause
returns-clause-cause g c =
    let T = g.P.Pages.tells in
    let a = g.P.Pages.seen c.args.pages.now in
    let b = g.P.Pages.seen c.copy_page.new.pages in
    let m = g.P.Pages.seen c.copy_page-2.new.pages in
    let d = g.P.Pages.seen c.copy_page-3.new.pages in
    let e = g.P.Pages.seen c.mend_copied.new.pages in
    let looks = all_looks T a b m d c.args.at c.args.pair.now c.copy_page.new.into c.copy_page-2.new.into c.copy_page-3.new.into c.requires.pair c.copy_page.ensures.again c.copy_page-2.ensures.looks c.copy_page-2.ensures.again c.copy_page-3.ensures.looks c.copy_page-3.ensures.again in
    mend_cause_looked T a d e 1 c.mend_copied.result looks c.mend_copied.ensures.cause

pub returns-clause-sound : goal.returns-clause-sound
returns-clause-sound g c = λ t sound stand.
    let T = g.P.Pages.tells in
    let a = g.P.Pages.seen c.args.pages.now in
    let b = g.P.Pages.seen c.copy_page.new.pages in
    let m = g.P.Pages.seen c.copy_page-2.new.pages in
    let d = g.P.Pages.seen c.copy_page-3.new.pages in
    let looks = all_looks T a b m d c.args.at c.args.pair.now c.copy_page.new.into c.copy_page-2.new.into c.copy_page-3.new.into c.requires.pair c.copy_page.ensures.again c.copy_page-2.ensures.looks c.copy_page-2.ensures.again c.copy_page-3.ensures.looks c.copy_page-3.ensures.again in
    let family = copies_family T a b m d c.args.at c.args.pair.now c.copy_page.new.into c.copy_page-2.new.into c.copy_page-3.new.into c.requires.pair c.copy_page.ensures.again c.copy_page-2.ensures.looks c.copy_page-2.ensures.again c.copy_page-3.ensures.looks c.copy_page-3.ensures.again
    c.in_ok-copy_page.ensures.copied c.in_ok-copy_page-2.ensures.copied c.in_ok-copy_page-3.ensures.copied in
    c.mend_copied.ensures.sound t (sound_looked T a d 1 t looks sound)
    ((stand_looked T a d 1 c.args.at c.args.pair.now t looks stand).each c.copy_page.new.into c.copy_page-2.new.into c.copy_page-3.new.into family.parent_is.in_hand.page family.left_is.in_hand.page family.right_is.in_hand.page family.parent_is.size family.left_is.size family.right_is.size)

pub returns-in_err-copy_page-clause-sound : goal.returns-in_err-copy_page-clause-sound
returns-in_err-copy_page-clause-sound g c = λ t sound stand.
    let p = err_from_is_err_and c.from_residual.result c.from_residual.ensures.1 in
    let can = c.requires.pair in
    no_bad_passed c.copy_page.result c.from_residual.result c.in_err-copy_page.field-0.0 p.0 c.in_err-copy_page.was p.1 p.2 (λ id h. (let z = sym can.in_hand.page ∙ (c.copy_page.ensures.cause.bad id h).known can.in_hand.known in cc z))

pub returns-in_err-copy_page-2-clause-sound : goal.returns-in_err-copy_page-2-clause-sound
returns-in_err-copy_page-2-clause-sound g c = λ t sound stand.
    let T = g.P.Pages.tells in
    let a = g.P.Pages.seen c.args.pages.now in
    let b = g.P.Pages.seen c.copy_page.new.pages in
    let p = err_from_is_err_and c.from_residual-in_err-copy_page-2.result c.from_residual-in_err-copy_page-2.ensures.1 in
    let looks = c.copy_page.ensures.looks in
    let can = can_looked T a b 1 c.args.at c.args.pair.now looks c.requires.pair in
    no_bad_passed c.copy_page-2.result c.from_residual-in_err-copy_page-2.result c.in_err-copy_page-2.field-0.0 p.0 c.in_err-copy_page-2.was p.1 p.2
    (λ id h. sound_not_bad T b c.args.pair.now.left id t (sound_looked T a b 1 t looks sound) (omega (arith, can.may.left_below, number_told b Pages can.count can.number)) (c.copy_page-2.ensures.cause.bad id h))

pub returns-in_err-copy_page-3-clause-sound : goal.returns-in_err-copy_page-3-clause-sound
returns-in_err-copy_page-3-clause-sound g c = λ t sound stand.
    let T = g.P.Pages.tells in
    let a = g.P.Pages.seen c.args.pages.now in
    let b = g.P.Pages.seen c.copy_page.new.pages in
    let m = g.P.Pages.seen c.copy_page-2.new.pages in
    let p = err_from_is_err_and c.from_residual-in_err-copy_page-3.result c.from_residual-in_err-copy_page-3.ensures.1 in
    let looks = looks_then T a b m 1 1 c.copy_page.ensures.looks c.copy_page-2.ensures.looks in
    let can = can_looked T a m (1 + 1) c.args.at c.args.pair.now looks c.requires.pair in
    no_bad_passed c.copy_page-3.result c.from_residual-in_err-copy_page-3.result c.in_err-copy_page-3.field-0.0 p.0 c.in_err-copy_page-3.was p.1 p.2
    (λ id h. sound_not_bad T m c.args.pair.now.right id t (sound_looked T a m (1 + 1) t looks sound) (omega (arith, can.may.right_below, number_told m Pages can.count can.number)) (c.copy_page-3.ensures.cause.bad id h))
