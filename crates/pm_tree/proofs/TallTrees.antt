-- A tree has many items for its levels.
use Rattle.std.proofs.Common.{◌≡◌, ℕ, zero, suc, ◌+◌, ◌≤◌, List, [], ◌∷◌, length, sym, subst, ◌∙◌, arith}
use Rattle.std.proofs.lemmas.List.{length-append, length-map}
use Rattle.pm_btpage.specs.IndexPages.{Item}
use Rattle.pm_pages.specs.Rows.{page_at}
use Rattle.pm_pages.specs.Chains.{times}
use Rattle.pm_tree.specs.Nodes.{Node, Entry, entry, entries, nodes_in, items_under, nodes_under, Each, IsTreeIn}
use Rattle.pm_tree.specs.Puts.{flat}
use Rattle.pm_tree.specs.Heights.{TallHasItems}
use Rattle.pm_tree.proofs.Decoded.{tree_to, nodes_same, items_same}
use Rattle.pm_pages.proofs.ChainWalks.{times-append, times_here}
use Rattle.pm_tree.proofs.LeafChanges.{capacity_bounds}

-- a number, so many times
abbrev sums : ℕ → ℕ → ℕ
sums zero b = 0
sums (suc n) b = b + sums n b

-- how many items a tree other than a root has at least
abbrev least_items : ℕ → ℕ
least_items zero = 6
least_items (suc levels) = sums 7 (least_items levels)

AreMany : (ℕ → List Item) → ℕ → List Entry → Type 0
AreMany f b es = Each (λ i. b ≤ length (f i)) es

many_joined : (f : ℕ → List Item) (b n : ℕ) (es : List Entry) → n ≤ length es → Each (λ i. b ≤ length (f i)) es → sums n b ≤ length (flat f es)
many_joined f b zero es le each = omega arith
many_joined f b (suc n) [] le each = absurd (omega (arith, le))
many_joined f b (suc n) (e ∷ es) le each = omega (arith, each.0, many_joined f b n es (omega (arith, le)) each.1, length-append (f e.child) (flat f es))

-- pages of a tree whose half is six items at least
abbrev AreWide : (ℕ → Node) → List ℕ → Type 0
AreWide N pages = (j : ℕ) → 1 ≤ times j pages → 6 ≤ (N j).half

each_many : (N : ℕ → Node) (levels half : ℕ) (es : List Entry) → ((i : ℕ) → AreWide N (nodes_under N levels i) → IsTreeIn N levels half i → least_items levels ≤ length (items_under N levels i))
    → AreWide N (flat (nodes_under N levels) es) → Each (IsTreeIn N levels half) es → Each (λ i. least_items levels ≤ length (items_under N levels i)) es
each_many N levels half [] f wide trees = tt
each_many N levels half (e ∷ es) f wide trees = (
  f e.child (λ j some. wide j (omega (arith, some, times-append j (nodes_under N levels e.child) (flat (nodes_under N levels) es)))) trees.0,
  each_many N levels half es f (λ j some. wide j (omega (arith, some, times-append j (nodes_under N levels e.child) (flat (nodes_under N levels) es)))) trees.1,
)

length_entries : (node : Node) → length (entries node) ≡ length node.items + 1
length_entries node = omega (arith, length-map node.items entry)

below_wide : (N : ℕ → Node) (levels at : ℕ) → AreWide N (nodes_under N (suc levels) at) → AreWide N (flat (nodes_under N levels) (entries (N at)))
below_wide N levels at wide j some = wide j (omega (arith, some, times-append j (at ∷ []) (flat (nodes_under N levels) (entries (N at)))))

tree_many : (N : ℕ → Node) (levels least at : ℕ) → 6 ≤ least → AreWide N (nodes_under N levels at) → IsTreeIn N levels least at → least_items levels ≤ length (items_under N levels at)
tree_many N zero least at le wide tree = omega (arith, le, tree.full)
tree_many N (suc levels) least at le wide tree =
    let half : 6 ≤ (N at).half = wide at (omega (arith, times_here at (flat (nodes_under N levels) (entries (N at))))) in
    many_joined (items_under N levels) (least_items levels) 7 (entries (N at)) (omega (arith, le, tree.0.full, length_entries (N at)))
    (each_many N levels (N at).half (entries (N at)) (λ i wide' t. tree_many N levels (N at).half i half wide' t) (below_wide N levels at wide) tree.1)

pub tall_has_items : TallHasItems 1411788
tall_has_items pages root nodes items sizes index =
    let N = nodes_in pages in
    let tree : IsTreeIn (nodes_in pages) 7 1 root = tree_to pages 7 1 root index.tree in
    let wide : AreWide (nodes_in pages) (nodes_under (nodes_in pages) 7 root) = λ j some. (let size = sizes j (subst (λ u. 1 ≤ times j u) (nodes_same pages 7 root ∙ sym index.nodes_are) some) in omega (arith, capacity_bounds (length (page_at pages j)) size)) in
    let half : 6 ≤ (nodes_in pages root).half = wide root (omega (arith, times_here root (flat (nodes_under (nodes_in pages) 6) (entries (nodes_in pages root))))) in
    let many : sums 2 (least_items 6) ≤ length (items_under (nodes_in pages) 7 root) =
    many_joined (items_under (nodes_in pages) 6) (least_items 6) 2 (entries (nodes_in pages root)) (omega (arith, tree.0.full, length_entries (nodes_in pages root)))
    (each_many (nodes_in pages) 6 (nodes_in pages root).half (entries (nodes_in pages root)) (λ i wide' t. tree_many (nodes_in pages) 6 (nodes_in pages root).half i half wide' t) (below_wide (nodes_in pages) 6 root wide) tree.1) in
    subst (λ (xs : List Item). 1411788 ≤ length xs) (items_same pages 7 root ∙ sym index.items_are) many
