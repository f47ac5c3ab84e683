-- Trees of pages that pass their checks, of which no page is bad.
use Rattle.std.proofs.Common.{◌≡◌, ◌≢◌, ℕ, zero, suc, ◌<◌, ◌≤◌, List, sym, ap, subst, ◌∙◌, inl, arith}
use Rattle.pm_types.specs.PageSizes.{IsPageSize}
use Rattle.pm_btpage.specs.declared.layout.TheConstants.{LEAF_KIND}
use Rattle.pm_btpage.specs.IndexPages.{Item}
use Rattle.pm_pages.specs.Rows.{page_count, kind_of}
use Rattle.pm_pages.specs.Chains.{times}
use Rattle.pm_pages.specs.Trees.{index_in}
use Rattle.pm_pages.specs.Paged.{Paged, AllReadable}
use Rattle.pm_pages.specs.Edits.{LooksAtPages, HasMeta}
use Rattle.pm_tree.specs.Indexes.{IsIndex}
use Rattle.pm_tree.specs.Nodes.{Node, node_of, nodes_in, IsTreeIn}
use Rattle.pm_tree.specs.Puts.{half_of}
use Rattle.pm_tree.proofs.Decoded.{nodes_same, tree_to}
use Rattle.pm_tree.proofs.LeafChanges.{capacity_bounds}
use Rattle.pm_tree.proofs.Told.{page_is}
use Rattle.pm_tree_del.specs.declared.pairs.Pair.{Pair}
use Rattle.pm_tree_del.specs.declared.remove.Removal.TheVariants.{Small}
use Rattle.pm_tree_del.specs.declared.tops.Top.TheVariants as top
use Rattle.pm_tree_del.specs.Removes.{RemovesFor}
use Rattle.pm_tree_del.specs.Roots.{IsTopIn}
use Rattle.pm_tree_del.specs.Sound.{StandSo}
use Rattle.pm_tree.proofs.SoundPages.{node_within}

pub stand_looked : (T : Type 0) (a b : Paged) (m at : ℕ) (pair : Pair) → T → LooksAtPages T a b m → StandSo a at pair → StandSo b at pair
stand_looked T a b m at pair t looks stand = record {
  each = λ parent left right p l r p_size l_size r_size. stand.each parent left right (sym (looks.pages at (inl t)) ∙ p) (sym (looks.pages pair.left (inl t)) ∙ l) (sym (looks.pages pair.right (inl t)) ∙ r)
      (p_size ∙ looks.same.page_size) (l_size ∙ looks.same.page_size) (r_size ∙ looks.same.page_size);
}

-- a root that is settled
pub only_within : (p : Paged) (h least root child : ℕ) → AllReadable p → HasMeta p → IsTreeIn (nodes_in p.pages) h least root → IsTopIn p root (top.Only child) → (1 ≤ child) × (child < page_count p.pages)
only_within p h least root child readable meta tree is = by h tree
  where
    lt : root < page_count p.pages
    lt = (node_within p h least root readable meta tree).1

    same : nodes_in p.pages root ≡ node_of is.page
    same = ap node_of (page_is p root is.page lt is.in_hand.page)

    by : (n : ℕ) → IsTreeIn (nodes_in p.pages) n least root → (1 ≤ child) × (child < page_count p.pages)
    by zero x = absurd (let k : kind_of is.page ≡ LEAF_KIND = sym (ap (λ (n : Node). n.kind) same) ∙ x.kind_is in omega (arith, k, is.is.0.kind_is))
    by (suc g) x =
        let e : index_in (nodes_in p.pages root).link ≡ child = ap (λ (n : Node). index_in n.link) same ∙ sym is.is.1 in
        node_within p g (nodes_in p.pages root).half child readable meta (subst (IsTreeIn (nodes_in p.pages) g (nodes_in p.pages root).half) e x.1.0)

-- the tree that a removal made of it
pub small_tree : (a b : Paged) (root was : ℕ) (key : List ℕ) (height : ℕ) (nodes : List ℕ) (items : List Item) → IsPageSize a.page_size → root ≢ 0 → IsIndex a.pages root height nodes items → RemovesFor a.pages b.pages (half_of a.page_size) 8 root key (Small was) → (h : ℕ) × IsTreeIn (nodes_in b.pages) h 0 root
small_tree a b root was key zero nodes items size some index removes = absurd (some index.0)
small_tree a b root was key (suc levels) nodes items size some index removes =
    let x = removes.each levels index.few 1 (omega (arith, capacity_bounds a.page_size size)) (tree_to a.pages levels 1 root index.tree) (λ j. subst (λ u. times j u ≤ 1) (sym (nodes_same a.pages levels root ∙ sym index.nodes_are)) (index.once j)) in
    (levels, x.1.removes.tree)
