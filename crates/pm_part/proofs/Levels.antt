-- The levels that are counted from a tree's root are those of the tree.
use Rattle.std.proofs.Common.{◌≡◌, ℕ, zero, suc, ◌+◌, ◌-◌, ◌≤◌, ap, ◌∙◌, inr, arith}
use Rattle.pm_btpage.specs.IndexPages.{capacity_of}
use Rattle.std.specs.Prelude.{length, ◌/◌}
use Rattle.pm_pages.specs.Rows.{Partition, page_at}
use Rattle.pm_pages.specs.Trees.{IsTree, levels_from, child_of}
use Rattle.pm_pages.proofs.BelowTrees.{child_tree, levels-none, levels-inner}

pub levels_are : (pages : Partition) (limit levels least at : ℕ) → levels ≤ limit → IsTree pages levels least at → levels_from pages limit at ≡ levels
levels_are pages limit zero least at le tree = levels-none pages limit at (inr (λ e. omega (arith, e, tree.kind_is)))
levels_are pages limit (suc levels) least at le tree =
    levels-inner pages limit at (omega (arith, le)) tree.0.kind_is
    ∙ ap (λ n. 1 + n) (levels_are pages (limit - 1) levels (capacity_of (length (page_at pages at)) / 2) (child_of (page_at pages at) 0) (omega (arith, le))
    (child_tree pages levels least at 0 tree (omega arith)).0)
    ∙ omega arith
