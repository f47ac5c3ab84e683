use Rattle.std.proofs.Common.{ℕ, Some, sym, ap, subst, ◌∙◌}
use Rattle.pm_btpage.specs.IndexPages.{items_of}
use Rattle.pm_btpage.specs.Finds.{FindsIn}
use Rattle.pm_btpage.specs.declared.search.Found.{Found}
use Rattle.pm_btpage.specs.declared.search.Found.TheVariants.{At, Before}
use Rattle.pm_tree.proofs.MapLists.{get_found, get_between}
use Rattle.pm_tree.proofs.steps.word_of.Goals as goal

pub returns-in-At : goal.returns-in-At
returns-in-At c =
    let found = subst (λ (f : Found). FindsIn (items_of c.args.page.now) c.args.key.now f) {y = At c.in-At.i} c.in-At.is c.find.ensures in
    ap (λ (w : ℕ). Some w) c.word_at.ensures ∙ sym (get_found (items_of c.args.page.now) c.args.key.now c.in-At.i c.requires.items.rising found)

pub returns-in-Before : goal.returns-in-Before
returns-in-Before c =
    let found = subst (λ (f : Found). FindsIn (items_of c.args.page.now) c.args.key.now f) {y = Before c.in-Before.field-0} c.in-Before.is c.find.ensures in
    sym (get_between (items_of c.args.page.now) c.args.key.now c.in-Before.field-0 found)
