use Rattle.std.proofs.Common.{subst, arith}
use Rattle.pm_btpage.specs.IndexPages.{items_of}
use Rattle.pm_btpage.specs.Finds.{FindsIn}
use Rattle.pm_btpage.specs.declared.search.Found.{Found}
use Rattle.pm_btpage.specs.declared.search.Found.TheVariants.{At, Before}
use Rattle.pm_btpage.proofs.ItemsByIndex.{items_within}
use Rattle.pm_tree.proofs.Children.{child_at, child_before}
use Rattle.pm_tree.proofs.steps.child_for.Goals as goal

pub overflow_add-result : goal.overflow_add-result
overflow_add-result c =
    let found = subst (λ (f : Found). FindsIn (items_of c.args.page.now) c.args.key.now f) {y = At c.in-At.i} c.in-At.is c.find.ensures in
    let within = items_within c.args.page.now c.requires in
    omega (arith, found.in_range, within.0, within.1)

pub returns-in-At : goal.returns-in-At
returns-in-At c =
    let found = subst (λ (f : Found). FindsIn (items_of c.args.page.now) c.args.key.now f) {y = At c.in-At.i} c.in-At.is c.find.ensures in
    child_at (items_of c.args.page.now) c.args.key.now c.in-At.i c.requires.items.rising found

pub returns-in-Before : goal.returns-in-Before
returns-in-Before c =
    let found = subst (λ (f : Found). FindsIn (items_of c.args.page.now) c.args.key.now f) {y = Before c.in-Before.i} c.in-Before.is c.find.ensures in
    child_before (items_of c.args.page.now) c.args.key.now c.in-Before.i found
