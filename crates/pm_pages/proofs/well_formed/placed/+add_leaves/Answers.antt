use Rattle.std.proofs.Common.{◌≡◌, ℕ, ◌-◌, ◌<◌, ◌≤◌, List, ◌++◌, length, subst, sym, ap, ◌∙◌, arith}
use Rattle.std.specs.List.{flat_map}
use Rattle.pm_btpage.specs.IndexPages.{items_of}
use Rattle.pm_pages.specs.PageLists.{pages_in}
use Rattle.pm_pages.specs.Rows.{page_at, kind_of}
use Rattle.pm_pages.specs.Trees.{children_of, child_of, leaves_below, IsSomeTree}
use Rattle.pm_pages.proofs.BelowTrees.{length-children, as_inner, inner_kind, some_child, one_child_more, no_child_left, leaves-inner}
use Rattle.pm_pages.proofs.well_formed.placed.+add_leaves.Goals as goal

pub children-i-end-requires : goal.children-i-end-requires
children-i-end-requires t c = (as_inner c.page-root.result.now c.page-root.ensures.may_read (ap kind_of c.page-root.ensures.bytes ∙ inner_kind (pages_in c.args.pages.now) c.args.levels c.args.at (omega (arith, c.if-levels-eq0.false)) c.requires.tree)).0

pub child-requires-clause-page : goal.child-requires-clause-page
child-requires-clause-page t c = (as_inner c.page-root.result.now c.page-root.ensures.may_read (ap kind_of c.page-root.ensures.bytes ∙ inner_kind (pages_in c.args.pages.now) c.args.levels c.args.at (omega (arith, c.if-levels-eq0.false)) c.requires.tree)).0

pub child-requires-clause-inner : goal.child-requires-clause-inner
child-requires-clause-inner t c = (as_inner c.page-root.result.now c.page-root.ensures.may_read (ap kind_of c.page-root.ensures.bytes ∙ inner_kind (pages_in c.args.pages.now) c.args.levels c.args.at (omega (arith, c.if-levels-eq0.false)) c.requires.tree)).1

pub add_leaves-requires : goal.add_leaves-requires
add_leaves-requires t c =
    let pages = pages_in c.args.pages.now in
    let long : length (items_of c.page-root.result.now) ≡ length (items_of (page_at pages c.args.at)) = ap (λ (page : List ℕ). length (items_of page)) c.page-root.ensures.bytes in
    let child = some_child pages c.args.levels c.args.at c.children.i (omega (arith, c.if-levels-eq0.false)) c.requires.tree (omega (arith, long, c.children-test.true, c.children-i-end.ensures)) in
    let is = c.child.ensures ∙ ap (λ (page : List ℕ). child_of page c.children.i) c.page-root.ensures.bytes in
    (omega (arith, c.decreases, c.if-levels-eq0.false), (c.requires.readable, subst (λ at. IsSomeTree pages (c.args.levels - 1) at) (sym is) child))

pub children-preserved : goal.children-preserved
children-preserved t c =
    let below = λ (at : ℕ). leaves_below (pages_in c.args.pages.now) (c.args.levels - 1) at in
    let lt : c.children.i < length (children_of c.page-root.result.now) = omega (arith, length-children c.page-root.result.now, c.children-test.true, c.children-i-end.ensures) in
    one_child_more below c.children.leaves.items c.add_leaves.new.leaves.items (c.args.leaves.now.items ++ flat_map below (children_of c.page-root.result.now)) (children_of c.page-root.result.now) c.children.i c.child.result lt c.child.ensures c.children.invariant c.in_ok-add_leaves.ensures

pub returns : goal.returns
returns t c =
    let pages = pages_in c.args.pages.now in
    let below = λ (at : ℕ). leaves_below pages (c.args.levels - 1) at in
    let last : length (children_of c.page-root.result.now) ≤ c.children.i = omega (arith, length-children c.page-root.result.now, c.children-test.false, c.children-i-end.ensures) in
    let all = no_child_left below c.children.leaves.items (c.args.leaves.now.items ++ flat_map below (children_of c.page-root.result.now)) (children_of c.page-root.result.now) c.children.i last c.children.invariant in
    let inner = leaves-inner pages c.args.levels c.args.at c.page-root.result.now (omega (arith, c.if-levels-eq0.false)) c.page-root.ensures.bytes in
    all ∙ ap (λ (t : List ℕ). c.args.leaves.now.items ++ t) inner
