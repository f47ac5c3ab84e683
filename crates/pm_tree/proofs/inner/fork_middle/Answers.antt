use Rattle.std.proofs.Common.{◌≡◌, subst, sym, ap, ◌∙◌, arith}
use Rattle.std.specs.Prelude.{Some}
use Rattle.pm_types.specs.Ids.{page_id}
use Rattle.pm_pages.specs.Trees.{index_in}
use Rattle.pm_types.specs.declared.page_id.PageId.{PageId}
use Rattle.pm_tree.specs.Divisions.{Divides}
use Rattle.pm_tree.specs.Grown.{Forks}
use Rattle.pm_tree.proofs.ForkSteps.{can_fork, half_in, middle_forks}
use Rattle.pm_tree.proofs.inner.fork_middle.Goals as goal

pub divide-requires-clause-page : goal.divide-requires-clause-page
divide-requires-clause-page g c =
    let T = g.P.Pages.tells in
    let a = g.P.Pages.seen c.args.pages.now in
    let p = c.requires.parent in
    let full = c.requires.full p.page p.in_hand.page in
    let lt = half_in T a c.args.at c.args.i c.args.part p full in
    (p.page, can_fork a c.args.at c.args.i c.args.part.from p full c.child_name-child.result c.args.i c.args.i (omega (arith, lt, c.requires.half)) (omega (arith, lt, c.requires.half)))

pub returns-clause-forks : goal.returns-clause-forks
returns-clause-forks g c =
    let T = g.P.Pages.tells in
    let a = g.P.Pages.seen c.args.pages.now in
    let d = g.P.Pages.seen c.divide.new.pages in
    let p = c.requires.parent in
    let full = c.requires.full p.page p.in_hand.page in
    let child : c.child_name-child.result ≡ page_id a.part c.args.part.right = c.child_name-child.ensures.name ∙ ap (λ n. page_id n c.args.part.right) c.part.ensures in
    subst (Forks T a d c.args.at c.args.i c.args.part) (sym c.forked.ensures)
    (middle_forks T a c.args.at c.args.i c.args.part p full d c.in_ok-right.right (ap (λ (q : PageId). index_in q.0) (sym child) ∙ c.child_name-child.ensures.index) c.requires.half (subst (λ (q : PageId). Divides T a d c.args.at p.page (Some q) c.args.i c.args.i c.in_ok-right.right) child (c.in_ok-right.ensures.divides p.page p.in_hand.page)))
