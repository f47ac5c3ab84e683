use Rattle.std.proofs.Common.{◌≡◌, ℕ, List, subst, sym, ap, ◌∙◌}
use Rattle.std.proofs.lemmas.Result.{on_ok_weaker}
use Rattle.pm_types.specs.Ids.{page_id}
use Rattle.pm_pages.specs.Trees.{index_in}
use Rattle.pm_types.specs.declared.page_id.PageId.{PageId}
use Rattle.pm_tree.specs.Edits.{EditsNodeAt}
use Rattle.pm_tree.specs.declared.edits.Edit.TheVariants.{Insert}
use Rattle.pm_tree.proofs.ForkSteps.{grows_child}
use Rattle.pm_tree.proofs.inner.add_child.Goals as goal

pub returns-clause-grows : goal.returns-clause-grows
returns-clause-grows g c =
    let T = g.P.Pages.tells in
    let a = g.P.Pages.seen c.args.pages.now in
    let d = g.P.Pages.seen c.make_edit.new.pages in
    let word : c.child_name-word.result.0 ≡ (page_id a.part c.args.part.now.right).0 = ap (λ (p : PageId). p.0) c.child_name-word.ensures.name ∙ ap (λ n. (page_id n c.args.part.now.right).0) c.part.ensures in
    on_ok_weaker c.make_edit.result (λ edited. grows_child T a d c.args.at c.args.i c.child_name-word.result.0 c.args.part.now c.requires.parent (ap index_in (sym word) ∙ c.child_name-word.ensures.index) word c.make_edit.ensures.edits
    (subst (λ (k : List ℕ). EditsNodeAt a d c.args.at k (Insert c.args.i c.child_name-word.result.0)) c.key.ensures.key edited)) c.make_edit.ensures.edited
