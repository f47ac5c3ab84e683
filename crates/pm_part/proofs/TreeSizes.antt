-- A tree has no more pages than items.
use Rattle.std.proofs.Common.{◌≡◌, ℕ, zero, suc, ◌+◌, ◌*◌, ◌≤◌, List, [], ◌∷◌, ◌++◌, length, sym, ap, subst, ◌∙◌, arith}
use Rattle.std.proofs.lemmas.List.{length-append, length-map}
use Rattle.pm_btpage.specs.IndexPages.{Item}
use Rattle.pm_pages.specs.Rows.{Partition}
use Rattle.pm_pages.specs.Chains.{times}
use Rattle.pm_pages.proofs.ChainWalks.{times-append, times_here}
use Rattle.pm_tree.specs.Nodes.{Node, Entry, entry, entries, nodes_in, nodes_under, items_under, Each, IsTreeIn}
use Rattle.pm_tree.specs.Puts.{flat}
use Rattle.pm_tree.specs.Indexes.{IsIndex}
use Rattle.pm_tree.proofs.Decoded.{nodes_same, items_same, tree_to}

-- these pages may have at least twelve items
abbrev pub AreLarge : (ℕ → Node) → List ℕ → Type 0
AreLarge N pages = (j : ℕ) → 1 ≤ times j pages → 6 ≤ (N j).half

large_left : (N : ℕ → Node) (xs ys : List ℕ) → AreLarge N (xs ++ ys) → AreLarge N xs
large_left N xs ys large j there = large j (omega (arith, there, times-append j xs ys))

large_right : (N : ℕ → Node) (xs ys : List ℕ) → AreLarge N (xs ++ ys) → AreLarge N ys
large_right N xs ys large j there = large j (omega (arith, there, times-append j xs ys))

-- pages side by side, if it holds of each
row : (N : ℕ → Node) (levels half : ℕ) (es : List Entry) → ((i : ℕ) → AreLarge N (nodes_under N levels i) → IsTreeIn N levels half i → 3 * length (nodes_under N levels i) + 3 ≤ length (items_under N levels i))
    → AreLarge N (flat (nodes_under N levels) es) → Each (IsTreeIn N levels half) es
    → 3 * length (flat (nodes_under N levels) es) + 3 * length es ≤ length (flat (items_under N levels) es)
row N levels half [] each large trees = omega arith
row N levels half (e ∷ es) each large trees =
    omega (
      arith,
      each e.child (large_left N (nodes_under N levels e.child) (flat (nodes_under N levels) es) large) trees.0,
      row N levels half es each (large_right N (nodes_under N levels e.child) (flat (nodes_under N levels) es) large) trees.1,
      length-append (nodes_under N levels e.child) (flat (nodes_under N levels) es),
      length-append (items_under N levels e.child) (flat (items_under N levels) es),
    )

entry_count : (node : Node) → length (entries node) ≡ 1 + length node.items
entry_count node = omega (arith, length-map node.items entry)

tail_large : (N : ℕ → Node) (at : ℕ) (rest : List ℕ) → AreLarge N (at ∷ rest) → AreLarge N rest
tail_large N at rest large = large_right N (at ∷ []) rest large

sub_tree : (N : ℕ → Node) (levels least at : ℕ) → 6 ≤ least → AreLarge N (nodes_under N levels at) → IsTreeIn N levels least at
    → 3 * length (nodes_under N levels at) + 3 ≤ length (items_under N levels at)
sub_tree N zero least at some large tree = omega (arith, tree.full, some)
sub_tree N (suc levels) least at some large tree =
    let rest = flat (nodes_under N levels) (entries (N at)) in
    omega (
      arith,
      tree.0.full,
      some,
      entry_count (N at),
      row N levels (N at).half (entries (N at)) (λ i l t. sub_tree N levels (N at).half i (large at (omega (arith, times_here at rest))) l t) (tail_large N at rest large) tree.1,
    )

-- the whole tree, whose root may have one item alone
pub whole_tree : (N : ℕ → Node) (levels at : ℕ) → AreLarge N (nodes_under N levels at) → IsTreeIn N levels 1 at → length (nodes_under N levels at) ≤ length (items_under N levels at)
whole_tree N zero at large tree = omega (arith, tree.full)
whole_tree N (suc levels) at large tree =
    let rest = flat (nodes_under N levels) (entries (N at)) in
    omega (
      arith,
      tree.0.full,
      entry_count (N at),
      row N levels (N at).half (entries (N at)) (λ i l t. sub_tree N levels (N at).half i (large at (omega (arith, times_here at rest))) l t) (tail_large N at rest large) tree.1,
    )

-- and the index of a cache
pub index_size : (pages : Partition) (root height : ℕ) (nodes : List ℕ) (items : List Item) → AreLarge (nodes_in pages) nodes → IsIndex pages root height nodes items → length nodes ≤ length items
index_size pages root zero nodes items large index = omega (arith, ap (λ (l : List ℕ). length l) index.1)
index_size pages root (suc levels) nodes items large index =
    let at : nodes ≡ nodes_under (nodes_in pages) levels root = index.nodes_are ∙ sym (nodes_same pages levels root) in
    let has : items ≡ items_under (nodes_in pages) levels root = index.items_are ∙ sym (items_same pages levels root) in
    omega (
      arith,
      ap (λ (l : List ℕ). length l) at,
      ap (λ (l : List Item). length l) has,
      whole_tree (nodes_in pages) levels root (subst (AreLarge (nodes_in pages)) at large) (tree_to pages levels 1 root index.tree),
    )
