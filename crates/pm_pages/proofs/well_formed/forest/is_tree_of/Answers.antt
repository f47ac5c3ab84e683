use Rattle.std.proofs.Common.{◌≡◌, ℕ, ◌++◌, List, subst, sym, ap, ◌∙◌}
use Rattle.std.specs.Prelude.{All}
use Rattle.pm_btpage.specs.declared.layout.TheConstants.{LEAF_KIND}
use Rattle.pm_pages.specs.PageLists.{pages_in}
use Rattle.pm_pages.specs.Rows.{page_at, kind_of}
use Rattle.pm_pages.specs.Trees.{leaves_below}
use Rattle.pm_pages.proofs.BelowTrees.{all_leaves}
use Rattle.pm_pages.proofs.well_formed.forest.is_tree_of.Goals as goal

pub items_in-requires-clause-leaves : goal.items_in-requires-clause-leaves
items_in-requires-clause-leaves c =
    let pages = pages_in c.args.pages.now in
    let is = c.deref.ensures.value ∙ c.in_ok-add_leaves.ensures ∙ ap (λ (t : List ℕ). t ++ leaves_below pages c.args.levels c.args.root) c.new-leaves.ensures.items in
    subst (All (λ i. kind_of (page_at pages i) ≡ LEAF_KIND)) (sym is) (all_leaves pages c.args.levels 1 c.args.root (c.is_tree.ensures.0 c.if-not-is_tree.false))

pub are_linked-requires-clause-leaves : goal.are_linked-requires-clause-leaves
are_linked-requires-clause-leaves c =
    let pages = pages_in c.args.pages.now in
    let is = c.deref-then-lists_rows.ensures.value ∙ c.in_ok-add_leaves.ensures ∙ ap (λ (t : List ℕ). t ++ leaves_below pages c.args.levels c.args.root) c.new-leaves.ensures.items in
    subst (All (λ i. kind_of (page_at pages i) ≡ LEAF_KIND)) (sym is) (all_leaves pages c.args.levels 1 c.args.root (c.is_tree.ensures.0 c.if-not-is_tree.false))
