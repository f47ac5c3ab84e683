-- Trees of pages that are there and aren't bad.
use Rattle.std.proofs.Common.{◌≡◌, ◌≢◌, ℕ, zero, suc, ◌-◌, ◌<◌, ◌≤◌, List, refl, sym, ap, subst, ◌∙◌, inl, inr, arith}
use Rattle.std.specs.Prelude.{Some}
use Rattle.pm_types.specs.PageSizes.{IsPageSize}
use Rattle.pm_btpage.specs.declared.layout.TheConstants.{INNER_KIND}
use Rattle.pm_btpage.specs.IndexPages.{Item}
use Rattle.pm_meta.specs.declared.slots.MetaSlot.TheVariants.{Root, Pages}
use Rattle.pm_pages.specs.Rows.{Partition, page_count, kind_of}
use Rattle.pm_pages.specs.Chains.{times}
use Rattle.pm_pages.specs.Trees.{root_of}
use Rattle.pm_pages.specs.Paged.{Paged, AllReadable}
use Rattle.pm_pages.specs.Edits.{LooksAtPages, HasMeta, IsNumberIn}
use Rattle.pm_tree.specs.Indexes.{IsIndex}
use Rattle.pm_tree.specs.Nodes.{nodes_in, nodes_under, IsTreeIn}
use Rattle.pm_tree.specs.Places.{IsPlaceIn, IsPlace}
use Rattle.pm_tree.specs.Puts.{half_of}
use Rattle.pm_tree.specs.Steps.{IsNoNode}
use Rattle.pm_tree.specs.declared.places.Place.TheVariants.{Below, Other}
use Rattle.pm_tree.proofs.Decoded.{nodes_same, tree_to}
use Rattle.pm_pages.proofs.ToldPages.{number_told, pages_told}
use Rattle.pm_tree.proofs.Frames.{root_stands, used}
use Rattle.pm_tree.proofs.LeafChanges.{capacity_bounds}
use Rattle.pm_tree.proofs.Told.{below_count, page_is}
use Rattle.pm_tree.specs.Sound.{HasTree}
use Rattle.pm_tree.proofs.Ascents.{child_tree, child_once}
use Rattle.pm_tree.proofs.SoundPages.{node_within}

-- pages that were only looked at
pub tree_looked : (T : Type 0) (a b : Paged) (m limit at : ℕ) → T → LooksAtPages T a b m → HasTree a limit at → HasTree b limit at
tree_looked T a b m limit at t looks tree =
    let same = pages_told T a b m t looks in
    record {
      height = tree.height;
      few = tree.few;
      least = tree.least;
      some = tree.some;
      most = subst (λ n. tree.least ≤ half_of n) (sym looks.same.page_size) tree.most;
      tree = subst (λ (q : Partition). IsTreeIn (nodes_in q) tree.height tree.least at) (sym same) tree.tree;
      once = subst (λ (q : Partition). (j : ℕ) → times j (nodes_under (nodes_in q) tree.height at) ≤ 1) (sym same) tree.once;
    }

pub tree_seen : (T : Type 0) (a b : Paged) (m h least at : ℕ) → T → LooksAtPages T a b m → IsTreeIn (nodes_in a.pages) h least at → IsTreeIn (nodes_in b.pages) h least at
tree_seen T a b m h least at t looks tree = subst (λ (q : Partition). IsTreeIn (nodes_in q) h least at) (sym (pages_told T a b m t looks)) tree

pub index_seen : (T : Type 0) (a b : Paged) (cache root m : ℕ) → T → LooksAtPages T a b m → IsNumberIn b (Root cache) root → (height : ℕ) (nodes : List ℕ) (items : List Item) → IsIndex a.pages (root_of a.pages cache) height nodes items → IsIndex b.pages root height nodes items
index_seen T a b cache root m t looks number height nodes items index =
    let same = pages_told T a b m t looks in
    let told : root_of a.pages cache ≡ root = ap (λ (q : Partition). root_of q cache) (sym same) ∙ number_told b (Root cache) root number in
    subst (λ (q : Partition × ℕ). IsIndex q.0 q.1 height nodes items) {x = (a.pages, root_of a.pages cache)} {y = (b.pages, root)} (λ z. (sym same z, told z)) index

-- the page of a tree is a leaf or an inner page
pub node_kind : (p : Paged) (h least at : ℕ) (page : List ℕ) → at < page_count p.pages → p.pages at ≡ Some page → IsTreeIn (nodes_in p.pages) h least at → IsNoNode page → ⊥
node_kind p h least at page lt is tree none =
    let e = page_is p at page lt is in
    used (nodes_in p.pages) h least at at tree (root_stands (nodes_in p.pages) h at) (record { leaf = λ k. none.leaf (sym (ap kind_of e) ∙ k); inner = λ k. none.inner (sym (ap kind_of e) ∙ k) })

pub not_other : (p : Paged) (count limit at : ℕ) (key : List ℕ) → AllReadable p → HasMeta p → IsNumberIn p Pages count → HasTree p limit at → IsPlace p count at key Other → ⊥
not_other p count limit at key readable meta number tree found =
    let within = node_within p tree.height tree.least at readable meta tree.tree in
    elim found [
      | inl beside ↦ elim beside.where_at [ inl e ↦ omega (arith, e, within.0) | inr le ↦ omega (arith, le, within.1, number_told p Pages count number) ]
      | inr r ↦ node_kind p tree.height tree.least at r.1.page within.1 r.1.in_hand.page tree.tree r.1.is
    ]

-- the tree of a child
pub tree_of_child : (T : Type 0) (a : Paged) (count at i child limit : ℕ) (key : List ℕ) → T → HasMeta a → AllReadable a → IsPlaceIn a at key (Below i child) → IsNumberIn a Pages count → at < count → HasTree a limit at → HasTree a (limit - 1) child
tree_of_child T a count at i child limit key t meta readable place number at_lt tree = by tree.height tree.few tree.tree tree.once
  where
    below : (n : ℕ) → IsNumberIn a Pages n → at < n
    below n is = omega (arith, at_lt, number_told a Pages count number, number_told a Pages n is)

    inner_here : (nodes_in a.pages at).kind ≡ INNER_KIND
    inner_here = ap kind_of (page_is a at place.page (below_count a at meta below) place.in_hand.page) ∙ place.is.kind

    by : (n : ℕ) → n < limit → IsTreeIn (nodes_in a.pages) n tree.least at → ((j : ℕ) → times j (nodes_under (nodes_in a.pages) n at) ≤ 1) → HasTree a (limit - 1) child
    by zero few here once = absurd (omega (arith, inner_here, here.kind_is))
    by (suc h) few here once = record {
      height = h;
      few = omega (arith, few);
      least = half_of a.page_size;
      some = omega (arith, tree.some, tree.most);
      most = omega arith;
      tree = child_tree T a a at i child key 0 (half_of a.page_size) h tree.least t meta place below refl here once;
      once = child_once T a a at i child key 0 (half_of a.page_size) h tree.least t meta place below refl here once;
    }

-- the tree of an index
pub index_tree : (p : Paged) (root : ℕ) → IsPageSize p.page_size → root ≢ 0 → (height : ℕ) (nodes : List ℕ) (items : List Item) → IsIndex p.pages root height nodes items → HasTree p 8 root
index_tree p root size some zero nodes items index = absurd (some index.0)
index_tree p root size some (suc levels) nodes items index = record {
  height = levels;
  few = index.few;
  least = 1;
  some = omega arith;
  most = omega (arith, capacity_bounds p.page_size size);
  tree = tree_to p.pages levels 1 root index.tree;
  once = λ j. subst (λ u. times j u ≤ 1) (sym (nodes_same p.pages levels root ∙ sym index.nodes_are)) (index.once j);
}
