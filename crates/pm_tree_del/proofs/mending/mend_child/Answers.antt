use Rattle.std.proofs.Common.{refl, sym, ap, subst, ◌∙◌, inl}
use Rattle.std.specs.Prelude.{None, Some}
use Rattle.pm_types.specs.Ids.{page_id}
use Rattle.pm_tree_del.specs.Pairs.{IsPairIn}
use Rattle.pm_tree_del.proofs.WrittenPages.{mend_cause_looked, no_pair_cause, child_mended}
use Rattle.std.proofs.lemmas.Result.{err_from_is_err_and}
use Rattle.pm_pages.proofs.SoundPages.{sound_looked, sound_not_bad, no_bad_passed}
use Rattle.pm_tree_del.proofs.SoundRemovals.{stand_looked}
use Rattle.pm_tree_del.proofs.mending.mend_child.Goals as goal

pub mend_pair-requires-clause-page : goal.mend_pair-requires-clause-page
mend_pair-requires-clause-page g c =
    let b = g.P.Pages.seen c.find_pair.new.pages in
    let p = subst (IsPairIn b c.args.at c.args.i) {y = Some c.in-Some.pair} c.in-Some.is c.in_ok-pair.ensures.pair in
    (p.page, p.in_hand, c.args.i, p.is)

pub returns-in-Some-clause-mends : goal.returns-in-Some-clause-mends
returns-in-Some-clause-mends g c =
    let T = g.P.Pages.tells in
    let a = g.P.Pages.seen c.args.pages.now in
    let b = g.P.Pages.seen c.find_pair.new.pages in
    let e = g.P.Pages.seen c.mend_pair.new.pages in
    let p = subst (IsPairIn b c.args.at c.args.i) {y = Some c.in-Some.pair} c.in-Some.is c.in_ok-pair.ensures.pair in
    child_mended T a b e c.args.count c.args.at c.args.i c.args.child c.in-Some.pair c.mend_pair.result c.requires.meta c.find_pair.ensures.looks c.requires.known p c.mend_pair.ensures.may c.mend_pair.ensures.mends

pub returns-in-Some-clause-cause : goal.returns-in-Some-clause-cause
returns-in-Some-clause-cause g c =
    let T = g.P.Pages.tells in
    let a = g.P.Pages.seen c.args.pages.now in
    let b = g.P.Pages.seen c.find_pair.new.pages in
    let e = g.P.Pages.seen c.mend_pair.new.pages in
    mend_cause_looked T a b e 0 c.mend_pair.result c.find_pair.ensures.looks c.mend_pair.ensures.cause

pub returns-in-None-clause-cause : goal.returns-in-None-clause-cause
returns-in-None-clause-cause g c =
    let T = g.P.Pages.tells in
    let a = g.P.Pages.seen c.args.pages.now in
    let b = g.P.Pages.seen c.find_pair.new.pages in
    let p = subst (IsPairIn b c.args.at c.args.i) {y = None} c.in-None.is c.in_ok-pair.ensures.pair in
    mend_cause_looked T a b b 0 _ c.find_pair.ensures.looks (no_pair_cause T b c.args.at c.args.i c.args.child p.page c.new.result _ refl (c.new.ensures ∙ ap (λ n. page_id n c.args.at) c.part.ensures) p.in_hand (inl p.is))

pub returns-in_err-pair-clause-sound : goal.returns-in_err-pair-clause-sound
returns-in_err-pair-clause-sound g c = λ t sound can.
    let T = g.P.Pages.tells in
    let a = g.P.Pages.seen c.args.pages.now in
    let p = err_from_is_err_and c.from_residual.result c.from_residual.ensures.1 in
    no_bad_passed c.find_pair.result c.from_residual.result c.in_err-pair.field-0.0 p.0 c.in_err-pair.was p.1 p.2 (λ id h. sound_not_bad T a c.args.at id t sound can.below (c.find_pair.ensures.cause.bad id h))

pub returns-in-None-clause-sound : goal.returns-in-None-clause-sound
returns-in-None-clause-sound g c = λ t sound can id h.
    let b = g.P.Pages.seen c.find_pair.new.pages in
    let p = subst (IsPairIn b c.args.at c.args.i) {y = None} c.in-None.is c.in_ok-pair.ensures.pair in
    p.is (can.has p.page (sym (c.find_pair.ensures.looks.pages c.args.at (inl t)) ∙ p.in_hand.page))

pub returns-in-Some-clause-sound : goal.returns-in-Some-clause-sound
returns-in-Some-clause-sound g c = λ t sound can.
    let T = g.P.Pages.tells in
    let a = g.P.Pages.seen c.args.pages.now in
    let b = g.P.Pages.seen c.find_pair.new.pages in
    let looks = c.find_pair.ensures.looks in
    let p = subst (IsPairIn b c.args.at c.args.i) {y = Some c.in-Some.pair} c.in-Some.is c.in_ok-pair.ensures.pair in
    let here = sym (looks.pages c.args.at (inl t)) ∙ p.in_hand.page in
    c.mend_pair.ensures.sound t (sound_looked T a b 0 t looks sound) (can.may p.page here c.in-Some.pair p.is) (stand_looked T a b 0 c.args.at c.in-Some.pair t looks (can.stand p.page here c.in-Some.pair p.is))
