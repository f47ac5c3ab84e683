-- Over pages that are told and well formed, nothing is wrong of the pairs of a cache: no page is answered as bad.
use Rattle.std.proofs.Common.{◌≡◌, ℕ, zero, suc, ◌+◌, ◌-◌, ◌<◌, ◌≤◌, List, [], ◌∷◌, ◌++◌, length, refl, sym, ap, subst, ◌∙◌, inl, inr, arith}
use Rattle.std.specs.Prelude.{Any, Result, IsErrOf}
use Rattle.std.specs.List.{flat_map, slice_index_or}
use Rattle.pm_types.specs.declared.page_id.PageId.{PageId}
use Rattle.pm_types.specs.declared.fault.StoreFault.{StoreFault}
use Rattle.pm_types.specs.declared.fault.StoreFault.TheVariants.{BadPage}
use Rattle.pm_types.specs.declared.limits.TheConstants.{CACHES}
use Rattle.pm_types.specs.declared.shape.Shape.{Shape}
use Rattle.pm_btpage.specs.declared.layout.TheConstants.{LEAF_KIND}
use Rattle.pm_btpage.specs.IndexPages.{Item, items_of}
use Rattle.pm_meta.specs.declared.slots.MetaSlot.TheVariants.{Root, Pages}
use Rattle.pm_pages.specs.Chains.{times}
use Rattle.pm_pages.specs.Rows.{Partition, page_at, page_count, kind_of, rows_of}
use Rattle.pm_pages.specs.Trees.{root_of, leaves_below, nodes_below, items_below, items_in, children_of, first_of, IsSomeTree, IsItemOf, ListsRows}
use Rattle.pm_pages.specs.Paged.{Paged, IsBadPage}
use Rattle.pm_pages.specs.SoundPages.{PassesAll}
use Rattle.pm_pages.specs.WellFormed.{AllPass}
use Rattle.pm_pages.proofs.ChainWalks.{times-append, few, stands}
use Rattle.pm_pages.proofs.BelowTrees.{all_leaves}
use Rattle.pm_pages.proofs.PassingLooks.{not_bad, meta_not_bad}
use Rattle.pm_tree.specs.Indexes.{IsIndex, IsTreeAt}
use Rattle.pm_tree.proofs.SoundLooks.{tree_below, tree_some}
use Rattle.pm_part.specs.Runs.{IsPartitionOf}
use Rattle.pm_part.specs.Reads.{ReadsPages}
use Rattle.pm_part.specs.PairReads.{WasFirstLeaf}
use Rattle.pm_part.specs.PairFaults.{WasBad, HadWrongItem, IsDownFault, IsLeavesFault, IsPairsFault, HasPairsCause}
use Rattle.pm_part.proofs.CacheIndexes.{index_of}
use Rattle.pm_pages.proofs.Quantified.{Each, each_of, all_of}
use Rattle.pm_part.proofs.ToldPairs.{passes_of}
use Rattle.pm_part.proofs.TreeLeaves.{number_told, page_told, tree_kinds, on_left, first_is, split, leaf_some, HasSplit}
use Rattle.pm_part.proofs.LinkedRows.{item_names, leaf_items}

-- pages that were only read pass still
passes_read : (T : Type 0) (a b : Paged) → T → ReadsPages T a b → PassesAll a → PassesAll b
passes_read T a b t reads all = record {
  shape = all.shape;
  page_size = all.page_size ∙ sym reads.same.page_size;
  max_rows = all.max_rows ∙ sym reads.same.max_rows;
  pass = subst (λ (q : ℕ × Partition). AllPass all.shape q.0 q.1) {x = (a.part, a.pages)} {y = (b.part, b.pages)} (λ k. (sym reads.same.part k, λ j. sym (reads.pages t j) k)) all.pass;
}

-- no page is bad
pub never_bad : (T : Type 0) (a : Paged) (count : ℕ) (id : PageId) → T → PassesAll a → count ≤ page_count a.pages → WasBad T a count id → ⊥
never_bad T a count id t all most was =
    let b = was.is.moment in
    let passes = passes_read T a b t was.is.reads all in
    let same : page_count b.pages ≡ page_count a.pages = ap (λ (q : Partition). page_count q) (λ k j. was.is.reads.pages t j k) in
    elim was.below [
      | inl first ↦ meta_not_bad T b id t passes (subst (λ i. IsBadPage T b i id) first was.is.bad)
      | inr lt ↦ not_bad T b was.i id t passes (omega (arith, lt, most, same)) was.is.bad
    ]

-- nothing is wrong on the way down
never_lost : (T : Type 0) (a : Paged) (count root levels : ℕ) (id : PageId) → T → count ≡ page_count a.pages → PassesAll a → levels < 8 → IsSomeTree a.pages levels root → IsDownFault T a count root id → ⊥
never_lost T a count root levels id t all passes few_levels tree fault =
    let left = on_left T a count root levels fault.levels fault.from fault.at t all tree fault.read in
    let m = levels - fault.levels in
    elim fault.wrong [
      | inr last ↦ omega (arith, last, left.few, few_levels)
      | inl down ↦ elim down [
        | inl none ↦ elim none.where_at [
          | inl first ↦ tree_some a m left.tree.0 fault.at passes left.tree.1 first
          | inr past ↦ omega (arith, past, all, tree_below a.pages m left.tree.0 fault.at left.tree.1)
        ]
        | inr was ↦
            let page = page_told T a count fault.at was.page t all was.below was.read in
            elim (tree_kinds a.pages m fault.at left.tree) [
              | inl leaf ↦ was.is.leaf (sym (ap kind_of page) ∙ leaf.1)
              | inr inner ↦ was.is.inner (sym (ap kind_of page) ∙ inner.1)
            ]
      ]
    ]

-- the leaves of a tree stand among its pages

times_joined : (f g : ℕ → List ℕ) (xs : List ℕ) (j : ℕ) → ((x : ℕ) → times j (f x) ≤ times j (g x)) → times j (flat_map f xs) ≤ times j (flat_map g xs)
times_joined f g [] j le = omega arith
times_joined f g (x ∷ xs) j le = omega (arith, times-append j (f x) (flat_map f xs), times-append j (g x) (flat_map g xs), le x, times_joined f g xs j le)

leaf_times : (pages : Partition) (levels at j : ℕ) → times j (leaves_below pages levels at) ≤ times j (nodes_below pages levels at)
leaf_times pages zero at j = omega arith
leaf_times pages (suc levels) at j =
    let le = times_joined (leaves_below pages levels) (nodes_below pages levels) (children_of (page_at pages at)) j (λ x. leaf_times pages levels x j) in
    omega (arith, le)

length_split : (xs : List ℕ) (y : ℕ) (ys : List ℕ) → length (xs ++ y ∷ ys) ≡ length xs + suc (length ys)
length_split [] y ys = omega arith
length_split (x ∷ xs) y ys = omega (arith, length_split xs y ys)

leaf_below : (a : Paged) (levels root j : ℕ) → IsSomeTree a.pages levels root → 1 ≤ times j (leaves_below a.pages levels root) → j < page_count a.pages
leaf_below a levels root j tree there =
    let kind = stands (λ i. kind_of (page_at a.pages i) ≡ LEAF_KIND) (leaves_below a.pages levels root) (all_leaves a.pages levels tree.0 root tree.1) j there in
    tree_below a.pages 0 0 j (record { kind_is = kind; full = omega arith })

few_leaves : (a : Paged) (levels root : ℕ) → IsSomeTree a.pages levels root → ((j : ℕ) → times j (nodes_below a.pages levels root) ≤ 1) → length (leaves_below a.pages levels root) ≤ page_count a.pages
few_leaves a levels root tree once = few (page_count a.pages) (leaves_below a.pages levels root) (λ j. omega (arith, leaf_times a.pages levels root j, once j)) (λ j there. leaf_below a levels root j tree there)

-- each item of a leaf names the row of its key
wrong_item : (T : Type 0) (shape : Shape) (a : Paged) (count cache : ℕ) (page : List ℕ) → T → count ≡ page_count a.pages → IsPartitionOf shape a → Each (λ (item : Item). Any (IsItemOf cache item) (rows_of a.part a.pages)) (items_of page) → HadWrongItem T a count cache page → ⊥
wrong_item T shape a count cache page t all of each wrong =
    let none : Item = record { key = []; word = 0 } in
    let any = all_of (λ (item : Item). Any (IsItemOf cache item) (rows_of a.part a.pages)) (items_of page) each wrong.item none wrong.in_range in
    item_names T shape a count cache (slice_index_or (items_of page) wrong.item none) t all of any wrong.wrong

-- nothing is wrong of the leaves
pub never_wrong : (T : Type 0) (shape : Shape) (a : Paged) (count cache root levels first : ℕ) (id : PageId) → T → count ≡ page_count a.pages → IsPartitionOf shape a → IsTreeAt a.pages root levels (nodes_below a.pages levels root) (items_below a.pages levels root) → ListsRows (rows_of a.part a.pages) cache (items_below a.pages levels root) → WasFirstLeaf T a count root first → IsLeavesFault T a count cache first id → ⊥
never_wrong T shape a count cache root levels first id t all of index lists was fault =
    step (split T a count cache (leaves_below a.pages levels root) first fault.leaves fault.from fault.at fault.pairs t all index.linked (first_is T a count root levels first t all (1, index.tree) was) fault.read)
  where
    step : HasSplit T a count cache (leaves_below a.pages levels root) fault.leaves fault.at fault.pairs → ⊥
    step s = cases s.left s.all s.next
      where
        cases : (left : List ℕ) → leaves_below a.pages levels root ≡ s.done ++ left → fault.at ≡ first_of left → ⊥
        cases [] all_is next = omega (arith, fault.some, next)
        cases (l ∷ rest) all_is next =
            let leaf = leaf_some a levels root l s.done rest (passes_of shape a of) (1, index.tree) all_is in
            let kind : kind_of (page_at a.pages fault.at) ≡ LEAF_KIND = ap (λ i. kind_of (page_at a.pages i)) next ∙ leaf.0 in
            let below : fault.at < page_count a.pages = tree_below a.pages 0 0 fault.at (record { kind_is = kind; full = omega arith }) in
            elim fault.wrong [
              | inr many ↦
                  let long = ap length all_is ∙ length_split s.done l rest in
                  omega (arith, long, s.many, many.0, all, few_leaves a levels root (1, index.tree) index.once)
              | inl one ↦ elim one [
                | inl no_leaf ↦ elim no_leaf.none [
                  | inl first ↦ omega (arith, first, fault.some)
                  | inr r ↦ elim r [
                    | inl past ↦ omega (arith, past, all, below)
                    | inr other ↦ other.2 (sym (ap kind_of (page_told T a count fault.at other.0 t all (omega (arith, all, below)) other.1)) ∙ kind)
                  ]
                ]
                | inr wrong ↦
                    let P : Item → Type 0 = λ (item : Item). Any (IsItemOf cache item) (rows_of a.part a.pages) in
                    let page : page_at a.pages l ≡ wrong.page = ap (λ i. page_at a.pages i) (sym next) ∙ page_told T a count fault.at wrong.page t all (omega (arith, all, below)) wrong.was.read in
                    let each : Each P (items_of (page_at a.pages l)) = leaf_items P a.pages s.done rest l (subst (λ ls. Each P (items_in a.pages ls)) all_is (each_of P (items_below a.pages levels root) lists.only)) in
                    wrong_item T shape a count cache wrong.page t all of (subst (λ q. Each P (items_of q)) page each) wrong.wrong
              ]
            ]

walks : (T : Type 0) (shape : Shape) (a : Paged) (cache height : ℕ) (nodes : List ℕ) (items : List Item) (id : PageId) → T → IsPartitionOf shape a → IsIndex a.pages (root_of a.pages cache) height nodes items → ListsRows (rows_of a.part a.pages) cache items → IsPairsFault T a cache id → ⊥
walks T shape a cache zero nodes items id t of index lists fault = fault.some (sym (number_told T a (Root cache) fault.root t fault.root_is) ∙ index.0)
walks T shape a cache (suc levels) nodes items id t of index lists fault =
    let root = root_of a.pages cache in
    let count : fault.count ≡ page_count a.pages = sym (number_told T a Pages fault.count t fault.count_is) in
    let same : fault.root ≡ root = sym (number_told T a (Root cache) fault.root t fault.root_is) in
    elim fault.fault [
      | inl bad ↦ never_bad T a fault.count id t (passes_of shape a of) (omega (arith, count)) bad
      | inr r ↦ elim r [
        | inl down ↦ never_lost T a fault.count root levels id t count (passes_of shape a of) index.few (1, index.tree) (subst (λ n. IsDownFault T a fault.count n id) same down)
        | inr leaves ↦
            never_wrong T shape a fault.count cache root levels leaves.0 id t count of
            (record { some = index.some; few = index.few; tree = index.tree; linked = index.linked; nodes_are = refl; items_are = refl; once = λ j. subst (λ l. times j l ≤ 1) index.nodes_are (index.once j) })
            (subst (ListsRows (rows_of a.part a.pages) cache) index.items_are lists) (subst (λ n. WasFirstLeaf T a fault.count n leaves.0) same leaves.1) leaves.2
      ]
    ]

-- what has a cause is answered with no bad page
pub sound : {R : Type 0} (T : Type 0) (shape : Shape) (a d : Paged) (cache : ℕ) (r : Result R StoreFault) → cache < CACHES → T → IsPartitionOf shape a → HasPairsCause T a d cache r → (id : PageId) → IsErrOf r (BadPage id) → ⊥
sound T shape a d cache r few_caches t of cause id h =
    let ix = index_of shape a cache of.page_size of.max_rows of.well_formed few_caches in
    elim (cause.bad id h) [
      | inl meta ↦ never_bad T a 0 id t (passes_of shape a of) (omega arith) meta
      | inr fault ↦ walks T shape a cache ix.height ix.nodes ix.items id t of ix.index ix.lists fault
    ]
