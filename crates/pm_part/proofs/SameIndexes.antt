-- The index of a cache is the same where none of its pages changed.
use Rattle.std.proofs.Common.{◌≡◌, ℕ, zero, suc, ◌<◌, ◌≤◌, List, [], ◌∷◌, sym, ap, subst, ◌∙◌, inl, inr, arith}
use Rattle.std.proofs.lemmas.Bool.{cases_lt}
use Rattle.pm_btpage.specs.IndexPages.{Item}
use Rattle.pm_pages.specs.Rows.{Partition, page_at, page_count, bytes_of}
use Rattle.pm_pages.specs.Chains.{times}
use Rattle.pm_pages.specs.Trees.{AreLinked, leaves_below}
use Rattle.pm_pages.proofs.PageReads.{page_at-below}
use Rattle.pm_pages.proofs.ChainWalks.{times_here, more}
use Rattle.pm_tree.specs.Indexes.{IsIndex}
use Rattle.pm_tree.specs.Nodes.{node_of, nodes_in, nodes_under}
use Rattle.pm_tree.specs.Puts.{IsSpare}
use Rattle.pm_tree.proofs.Decoded.{nodes_same, leaves_same, items_same, tree_to, tree_from}
use Rattle.pm_tree.proofs.Frames.{used, tree_stays, nodes_stay, leaves_stay, items_stay, leaves_few}
use Rattle.pm_tree.proofs.Told.{past_spare}

-- a page of an index is a leaf or an inner page
pub index_kind : (pages : Partition) (root height : ℕ) (nodes : List ℕ) (items : List Item) → IsIndex pages root height nodes items → (j : ℕ) → 1 ≤ times j nodes
    → IsSpare (nodes_in pages j) → ⊥
index_kind pages root zero nodes items index j stands spare = omega (arith, stands, ap (λ l. times j l) index.1)
index_kind pages root (suc levels) nodes items index j stands spare =
    let at : nodes ≡ nodes_under (nodes_in pages) levels root = index.nodes_are ∙ sym (nodes_same pages levels root) in
    used (nodes_in pages) levels 1 root j (tree_to pages levels 1 root index.tree) (subst (λ l. 1 ≤ times j l) at stands) spare

-- and lies below the page count
pub index_below : (pages : Partition) (root height : ℕ) (nodes : List ℕ) (items : List Item) → IsIndex pages root height nodes items → (j : ℕ) → 1 ≤ times j nodes
    → j < page_count pages
index_below pages root height nodes items index j stands = elim (cases_lt j (page_count pages)) [
  | inl lt ↦ lt
  | inr ge ↦ absurd (index_kind pages root height nodes items index j stands (past_spare pages j ge))
]

-- a page below the page count has the same bytes, where that didn't fall
pub page_stays : (old new : Partition) (j : ℕ) → page_count old ≤ page_count new → j < page_count old → new j ≡ old j → page_at new j ≡ page_at old j
page_stays old new j count lt same =
    page_at-below new j (omega (arith, count, lt)) ∙ ap bytes_of same ∙ sym (page_at-below old j lt)

links_same : (old new : Partition) (leaves : List ℕ) → ((j : ℕ) → 1 ≤ times j leaves → page_at new j ≡ page_at old j) → AreLinked old leaves → AreLinked new leaves
links_same old new [] same linked = tt
links_same old new (leaf ∷ leaves) same linked = (
  ap (λ (page : List ℕ). (node_of page).link) (same leaf (omega (arith, times_here leaf leaves))) ∙ linked.0,
  links_same old new leaves (λ j h. same j (more leaf j leaves h)) linked.1,
)

pub index_stays : (old new : Partition) (root height : ℕ) (nodes : List ℕ) (items : List Item) → page_count old ≤ page_count new
    → ((j : ℕ) → 1 ≤ times j nodes → new j ≡ old j) → IsIndex old root height nodes items → IsIndex new root height nodes items
index_stays old new root zero nodes items count same index = index
index_stays old new root (suc levels) nodes items count same index =
    let N = nodes_in old in
    let N' = nodes_in new in
    let at : nodes ≡ nodes_under N levels root = index.nodes_are ∙ sym (nodes_same old levels root) in
    let bytes : (j : ℕ) → 1 ≤ times j nodes → page_at new j ≡ page_at old j = λ j h. page_stays old new j count (index_below old root (suc levels) nodes items index j h) (same j h) in
    let on : (j : ℕ) → 1 ≤ times j (nodes_under N levels root) → N' j ≡ N j = λ j h. ap node_of (bytes j (subst (λ l. 1 ≤ times j l) (sym at) h)) in
    let leaves_are : leaves_below new levels root ≡ leaves_below old levels root = sym (leaves_same new levels root) ∙ leaves_stay N N' levels root on ∙ leaves_same old levels root in
    record {
      some = index.some;
      few = index.few;
      tree = tree_from new levels 1 root (tree_stays N N' levels 1 root on (tree_to old levels 1 root index.tree));
      linked = subst (AreLinked new) (sym leaves_are) (links_same old new (leaves_below old levels root) (λ j h. bytes j (among j h)) index.linked);
      nodes_are = index.nodes_are ∙ sym (nodes_same old levels root) ∙ sym (nodes_stay N N' levels root on) ∙ nodes_same new levels root;
      items_are = index.items_are ∙ sym (items_same old levels root) ∙ sym (items_stay N N' levels root on) ∙ items_same new levels root;
      once = index.once;
    }
  where
    among : (j : ℕ) → 1 ≤ times j (leaves_below old levels root) → 1 ≤ times j nodes
    among j h = omega (arith, subst (λ l. 1 ≤ times j l) (sym (leaves_same old levels root)) h, leaves_few (nodes_in old) levels root j, ap (λ l. times j l) (index.nodes_are ∙ sym (nodes_same old levels root)))
