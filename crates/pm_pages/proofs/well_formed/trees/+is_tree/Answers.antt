use Rattle.std.proofs.Common.{◌≡◌, ℕ, zero, suc, ◌+◌, ◌-◌, ◌<◌, ◌/◌, Bool, false, List, length, subst, refl, sym, ap, ◌∙◌, arith}
use Rattle.std.specs.Prelude.{IsTrue, All}
use Rattle.pm_btpage.specs.declared.layout.TheConstants.{INNER_KIND}
use Rattle.pm_btpage.specs.IndexPages.{items_of, capacity_of}
use Rattle.pm_pages.specs.PageLists.{pages_in}
use Rattle.pm_pages.specs.Rows.{Partition, page_at}
use Rattle.pm_pages.specs.Trees.{child_of, items_below, IsNode, IsWithin, IsTree}
use Rattle.pm_pages.proofs.BelowTrees.{inner_tree, child_tree}
use Rattle.pm_pages.proofs.well_formed.trees.+is_tree.Goals as goal
use Rattle.pm_pages.proofs.well_formed.trees.+is_tree.Goals.{then-not-is_tree-via-then-not-is_tree, then-not-is_tree-via-else-not-is_tree+then-not-is_within}

not_true : (b : Bool) → b ≡ false → IsTrue b → ⊥
not_true b is_false is_true = absurd (cc)

-- a child of a tree, by the root's bytes
child_of_tree : (pages : Partition) (levels least at k half child : ℕ) (root : List ℕ) → 0 < levels → root ≡ page_at pages at → half ≡ capacity_of (length root) → child ≡ child_of root k → IsTree pages levels least at → k < length (items_of root) + 1 → IsTree pages (levels - 1) (half / 2) child × All (IsWithin (items_of root) k) (items_below pages (levels - 1) child)
child_of_tree pages zero least at k half child root some is is_half is_child tree lt = absurd (omega arith)
child_of_tree pages (suc levels) least at k half child root some is is_half is_child tree lt =
    let P : List ℕ × ℕ × ℕ × ℕ → Type 0 = λ p. IsTree pages p.1 (p.2 / 2) p.3 × All (IsWithin (items_of p.0) k) (items_below pages p.1 p.3) in
    let e : levels ≡ suc levels - 1 = omega arith in
    let long : length (items_of root) ≡ length (items_of (page_at pages at)) = ap (λ (page : List ℕ). length (items_of page)) is in
    let half' : capacity_of (length (page_at pages at)) ≡ half = ap (λ (page : List ℕ). capacity_of (length page)) (sym is) ∙ sym is_half in
    let child' : child_of (page_at pages at) k ≡ child = ap (λ (page : List ℕ). child_of page k) (sym is) ∙ sym is_child in
    subst P (λ i. (sym is i, e i, half' i, child' i)) (child_tree pages levels least at k tree (omega (arith, long, lt)))

-- a tree of its children
tree_of_children : (pages : Partition) (levels least at half : ℕ) (root : List ℕ) → 0 < levels → root ≡ page_at pages at → half ≡ capacity_of (length root) → IsNode INNER_KIND least root → ((k : ℕ) → k < length (items_of root) + 1 → IsTree pages (levels - 1) (half / 2) (child_of root k) × All (IsWithin (items_of root) k) (items_below pages (levels - 1) (child_of root k))) → IsTree pages levels least at
tree_of_children pages zero least at half root some is is_half node each = absurd (omega arith)
tree_of_children pages (suc levels) least at half root some is is_half node each =
    let e : suc levels - 1 ≡ levels = omega arith in
    let long : length (items_of root) ≡ length (items_of (page_at pages at)) = ap (λ (page : List ℕ). length (items_of page)) is in
    let half' : half ≡ capacity_of (length (page_at pages at)) = is_half ∙ ap (λ (page : List ℕ). capacity_of (length page)) is in
    inner_tree pages levels least at (subst (IsNode INNER_KIND least) is node)
    (λ k lt. (let P : List ℕ × ℕ × ℕ → Type 0 = λ p. IsTree pages p.1 (p.2 / 2) (child_of p.0 k) × All (IsWithin (items_of p.0) k) (items_below pages p.1 (child_of p.0 k)) in
    subst P (λ i. (is i, e i, half' i)) (each k (omega (arith, long, lt)))))

pub returns-then-not-is_tree : goal.returns-then-not-is_tree
returns-then-not-is_tree t c =
    let pages = pages_in c.args.pages.now in (
      λ h. absurd (not_true false refl h),
      λ tree.
          let child = child_of_tree pages c.args.levels c.args.least c.args.at c.children.i c.capacity-half.result c.child-child.result c.page-root.result.now (omega (arith, c.if-levels-eq0.false)) c.page-root.ensures.bytes c.capacity-half.ensures c.child-child.ensures tree (omega (arith, c.children-test.true, c.children-i-end.ensures)) in
          absurd (elim c.then-not-is_tree.branch [
            | then-not-is_tree-via-then-not-is_tree w ↦ not_true c.is_tree.result w.if-not-is_tree.true (c.is_tree.ensures.1 child.0)
            | then-not-is_tree-via-else-not-is_tree+then-not-is_within w ↦ not_true w.is_within.result w.if-not-is_within.true (w.is_within.ensures.1 child.1)
          ]),
    )

pub returns : goal.returns
returns t c =
    let pages = pages_in c.args.pages.now in (
      λ h. tree_of_children pages c.args.levels c.args.least c.args.at c.capacity-half.result c.page-root.result.now (omega (arith, c.if-levels-eq0.false)) c.page-root.ensures.bytes c.capacity-half.ensures (c.is_node-2.ensures.0 c.if-not-is_node.false)
          (λ k lt. c.children.invariant k (omega (arith, lt, c.children-test.false, c.children-i-end.ensures))),
      λ tree. refl,
    )
