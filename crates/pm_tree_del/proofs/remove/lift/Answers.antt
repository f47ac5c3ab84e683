use Rattle.std.proofs.Common.{refl, subst, sym, arith}
use Rattle.std.proofs.lemmas.Result.{err_from_is_err_and}
use Rattle.pm_pages.proofs.EditedPages.{looks_at_none}
use Rattle.pm_tree_del.specs.declared.remove.Removal.{Removal}
use Rattle.pm_tree_del.specs.declared.remove.Removal.TheVariants.{Absent, Kept}
use Rattle.pm_tree_del.specs.Causes.{Lifts}
use Rattle.pm_tree_del.proofs.Removing.{changes_looked, changes_more, changes_mended, remove_cause_mend, remove_cause_passed}
use Rattle.pm_pages.proofs.SoundPages.{no_bad_passed}
use Rattle.pm_tree_del.proofs.remove.lift.Goals as goal

pub returns-in-Absent-clause-changes : goal.returns-in-Absent-clause-changes
returns-in-Absent-clause-changes g c = (let a = g.P.Pages.seen c.args.pages.now in changes_more g.P.Pages.tells a a 0 1 (omega arith) (changes_looked g.P.Pages.tells a a 0 c.requires.meta (looks_at_none g.P.Pages.tells a)))

pub returns-in-Absent-clause-lifts : goal.returns-in-Absent-clause-lifts
returns-in-Absent-clause-lifts g c =
    let a = g.P.Pages.seen c.args.pages.now in
    subst (λ (r : Removal). Lifts g.P.Pages.tells a a c.args.count c.args.at c.args.i c.args.child r Absent) (sym c.in-Absent.is) (refl, λ j. refl)

pub returns-in-Kept-clause-changes : goal.returns-in-Kept-clause-changes
returns-in-Kept-clause-changes g c = (let a = g.P.Pages.seen c.args.pages.now in changes_more g.P.Pages.tells a a 0 1 (omega arith) (changes_looked g.P.Pages.tells a a 0 c.requires.meta (looks_at_none g.P.Pages.tells a)))

pub returns-in-Kept-clause-lifts : goal.returns-in-Kept-clause-lifts
returns-in-Kept-clause-lifts g c =
    let a = g.P.Pages.seen c.args.pages.now in
    subst (λ (r : Removal). Lifts g.P.Pages.tells a a c.args.count c.args.at c.args.i c.args.child r (Kept c.in-Kept.was)) (sym c.in-Kept.is) (refl, λ j. refl)

pub returns-in_ok-few-in-Small-clause-changes : goal.returns-in_ok-few-in-Small-clause-changes
returns-in_ok-few-in-Small-clause-changes g c =
    let a = g.P.Pages.seen c.args.pages.now in
    let d = g.P.Pages.seen c.mend_child.new.pages in
    changes_mended g.P.Pages.tells a d c.args.count c.args.at c.args.i c.args.child c.in_ok-few-in-Small.few c.requires.some c.requires.meta c.requires.count c.in_ok-few-in-Small.ensures.mends

pub returns-in_ok-few-in-Small-clause-lifts : goal.returns-in_ok-few-in-Small-clause-lifts
returns-in_ok-few-in-Small-clause-lifts g c =
    let a = g.P.Pages.seen c.args.pages.now in
    let d = g.P.Pages.seen c.mend_child.new.pages in
    subst (λ (r : Removal). Lifts g.P.Pages.tells a d c.args.count c.args.at c.args.i c.args.child r c.removal_of.result) (sym c.in-Small.is) (c.in_ok-few-in-Small.few, c.removal_of.ensures, c.in_ok-few-in-Small.ensures.mends)

pub returns-in_err-few-in-Small-clause-cause : goal.returns-in_err-few-in-Small-clause-cause
returns-in_err-few-in-Small-clause-cause g c = λ cache.
    let T = g.P.Pages.tells in
    let a = g.P.Pages.seen c.args.pages.now in
    let d = g.P.Pages.seen c.mend_child.new.pages in
    let p = err_from_is_err_and c.from_residual.result c.from_residual.ensures.1 in
    remove_cause_passed T a d cache c.mend_child.result c.from_residual.result c.in_err-few-in-Small.field-0.0 p.0 c.in_err-few-in-Small.was p.1 p.2 (remove_cause_mend T a d cache c.mend_child.result c.mend_child.ensures.cause)

pub returns-in_err-few-in-Small-clause-sound : goal.returns-in_err-few-in-Small-clause-sound
returns-in_err-few-in-Small-clause-sound g c = λ t sound may.
    let p = err_from_is_err_and c.from_residual.result c.from_residual.ensures.1 in
    no_bad_passed c.mend_child.result c.from_residual.result c.in_err-few-in-Small.field-0.0 p.0 c.in_err-few-in-Small.was p.1 p.2 (c.mend_child.ensures.sound t sound (may c.in-Small.was c.in-Small.is))
