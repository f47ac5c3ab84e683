use Rattle.std.proofs.Common.{refl, subst, sym, arith}
use Rattle.std.proofs.lemmas.Result.{IfOk-weaker}
use Rattle.pm_pages.proofs.EditedPages.{looks_at_none}
use Rattle.pm_tree.specs.declared.put.Put.{Put}
use Rattle.pm_tree.specs.declared.put.Put.TheVariants.{Kept, Split}
use Rattle.pm_tree.specs.Puts.{IsKept, HasLevels}
use Rattle.pm_tree.specs.PutCauses.{Lifts}
use Rattle.pm_tree.proofs.Climbs.{changes_looked, changes_more}
use Rattle.pm_tree.proofs.put.lift.Goals as goal

pub returns-in-Kept-clause-changes : goal.returns-in-Kept-clause-changes
returns-in-Kept-clause-changes g c =
    let T = g.P.Pages.tells in
    let a = g.P.Pages.seen c.args.pages.now in
    changes_more T a a 0 1 (omega arith) (changes_looked T a a 0 c.requires.meta (looks_at_none T a))

pub returns-in-Kept-clause-lifts : goal.returns-in-Kept-clause-lifts
returns-in-Kept-clause-lifts g c =
    let T = g.P.Pages.tells in
    let a = g.P.Pages.seen c.args.pages.now in
    subst (λ (p : Put). Lifts T a a c.args.at c.args.i p (Kept c.in-Kept.was)) (sym c.in-Kept.is) (refl, λ j. refl)

pub take_child-requires-clause-levels : goal.take_child-requires-clause-levels
take_child-requires-clause-levels g c = (subst (HasLevels 8) {y = Split c.in-Split.part} c.in-Split.is c.requires.levels).0

pub take_child-requires-clause-right : goal.take_child-requires-clause-right
take_child-requires-clause-right g c = (subst (HasLevels 8) {y = Split c.in-Split.part} c.in-Split.is c.requires.levels).1

pub returns-in-Split-clause-lifts : goal.returns-in-Split-clause-lifts
returns-in-Split-clause-lifts g c =
    let T = g.P.Pages.tells in
    let a = g.P.Pages.seen c.args.pages.now in
    let d = g.P.Pages.seen c.take_child.new.pages in
    IfOk-weaker c.take_child.result _ _ (λ put takes. subst (λ (p : Put). Lifts T a d c.args.at c.args.i p put) {x = Split c.in-Split.part} (sym c.in-Split.is) takes) c.take_child.ensures.takes

pub returns-in-Split-clause-levels : goal.returns-in-Split-clause-levels
returns-in-Split-clause-levels g c =
    IfOk-weaker c.take_child.result _ _ (λ put levels limit h. levels limit (subst (HasLevels limit) {y = Split c.in-Split.part} c.in-Split.is h).0) c.take_child.ensures.levels

-- a page that was divided below isn't kept
pub returns-in-Split-clause-keeps : goal.returns-in-Split-clause-keeps
returns-in-Split-clause-keeps g c = λ kept. absurd (subst IsKept {y = Split c.in-Split.part} c.in-Split.is kept)

pub returns-in-Split-clause-sound : goal.returns-in-Split-clause-sound
returns-in-Split-clause-sound g c = λ may. c.take_child.ensures.sound (may c.in-Split.part c.in-Split.is)
