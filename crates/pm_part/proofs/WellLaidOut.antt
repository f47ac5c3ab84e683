-- A well-formed partition is laid out, and its indexes list its rows.
use Rattle.std.proofs.Common.{◌≡◌, ◌≢◌, ℕ, suc, ◌<◌, ◌≤◌, ◌⊎◌, ◌==◌, List, [], ◌∷◌, Bool, true, false, refl, sym, ap, subst, ◌∙◌, inl, inr, arith}
use Rattle.std.specs.Prelude.{if◌then◌else◌, nat_le, Any}
use Rattle.std.proofs.lemmas.Bool.{cases_eq, cases_lt, eq-eqb, ne_eqb, le-leb}
use Rattle.pm_types.specs.declared.limits.TheConstants.{CACHES}
use Rattle.pm_types.specs.declared.shape.Shape.{Shape}
use Rattle.pm_btpage.specs.IndexPages.{Item}
use Rattle.pm_btpage.specs.declared.layout.TheConstants.{LEAF_KIND, INNER_KIND}
use Rattle.pm_meta.specs.declared.slots.MetaSlot.TheVariants.{Reuse}
use Rattle.pm_data.specs.declared.layout.TheConstants.{DATA_KIND}
use Rattle.pm_meta.specs.declared.layout.TheConstants.{BUCKETS, REUSE_KIND}
use Rattle.pm_pages.specs.declared.row.Row.{Row}
use Rattle.pm_pages.specs.Rows.{Partition, page_at, page_count, number_in, kind_of, rows_of}
use Rattle.pm_pages.specs.Chains.{times, bucket_of, reuse_chain, reuse_next_of}
use Rattle.pm_pages.specs.Trees.{root_of, levels_of, nodes_of, items_below, nodes_below, ListsRows, IsItemOf}
use Rattle.pm_pages.specs.Paged.{Paged}
use Rattle.pm_pages.specs.SpareChains.{HasSpare}
use Rattle.pm_pages.specs.WellFormed.{IsWellFormed, placed_pages}
use Rattle.pm_pages.proofs.ChainWalks.{stands, all_stand, walk_some}
use Rattle.pm_tree.specs.Indexes.{IsIndex}
use Rattle.pm_tree.specs.Nodes.{nodes_in}
use Rattle.pm_tree.specs.Puts.{IsSpare}
use Rattle.pm_tree.proofs.SoundLooks.{tree_some}
use Rattle.pm_pages.specs.SoundPages.{PassesAll}
use Rattle.pm_part.specs.LaidOut.{joined, IsLaidOut, is_data}
use Rattle.pm_pages.proofs.Quantified.{Holds, Each, all_of, any_of}
use Rattle.pm_part.proofs.JoinedLists.{in_one, one_in}
use Rattle.pm_part.proofs.SameIndexes.{index_kind}
use Rattle.pm_part.proofs.Layouts.{data_one, data_none}
use Rattle.pm_part.proofs.PlacedPages.{all_chains, chains_none, chains_past, chains_once, placed_times}

-- how many levels of pages the index of a cache has
abbrev pub height_of : Partition → ℕ → ℕ
height_of pages cache = if root_of pages cache == 0 then 0 else suc (levels_of pages cache)

-- 1 for true, 0 for false
abbrev bit : Bool → ℕ
bit b = if b then 1 else 0

-- the items of the index of a cache
abbrev pub items_of_cache : Partition → ℕ → List Item
items_of_cache pages cache =
    if root_of pages cache == 0 then [] else items_below pages (levels_of pages cache) (root_of pages cache)

some_or_none : (rows : List Row) (cache : ℕ) → Holds (λ (row : Row). row.cache ≡ cache) rows ⊎ Each (λ (row : Row). row.cache ≢ cache) rows
some_or_none [] cache = inr tt
some_or_none (row ∷ rows) cache = elim (cases_eq row.cache cache) [
  | inl here ↦ inl (inl here)
  | inr other ↦ elim (some_or_none rows cache) [ inl later ↦ inl (inr later) | inr none ↦ inr (other, none) ]
]

none_listed : (rows : List Row) (cache : ℕ) → Each (λ (row : Row). row.cache ≢ cache) rows → Each (λ (row : Row). row.cache ≡ cache → Any (λ (item : Item). IsItemOf cache item row) []) rows
none_listed [] cache none = tt
none_listed (row ∷ rows) cache none = (λ e. absurd (none.0 e), none_listed rows cache none.1)

-- a list of pages that stand among those that a partition places stands there no more often
module _ (shape : Shape) (p : Paged) (size : shape.page_size ≡ p.page_size) (most : shape.max_rows ≡ p.max_rows) (wf : IsWellFormed shape p.part p.pages) where
  passes : PassesAll p
  passes = record { shape = shape; page_size = size; max_rows = most; pass = wf.all_pass }

  placed : (j : ℕ) → times j (placed_pages p.pages) ≤ 1
  placed j = elim (cases_lt j (page_count p.pages)) [
    | inl lt ↦ omega (arith, wf.each_once.once j lt, one_at_most (nat_le 1 j))
    | inr ge ↦ elim (cases_lt 0 (times j (placed_pages p.pages))) [
      | inl some ↦ absurd (omega (arith, stands (λ i. i < page_count p.pages) (placed_pages p.pages) wf.each_once.below j some, ge))
      | inr none ↦ omega (arith, none)
    ]
  ]
    where
      one_at_most : (b : Bool) → bit b ≤ 1
      one_at_most true = omega arith
      one_at_most false = omega arith

  nodes_once : (cache j : ℕ) → cache < CACHES → times j (nodes_of p.pages cache) ≤ 1
  nodes_once cache j few = omega (arith, placed j, placed_times p.pages j, one_in (nodes_of p.pages) cache j few)

  -- the index of a cache, and that it lists the cache's rows
  each_index : (cache : ℕ) → cache < CACHES → IsIndex p.pages (root_of p.pages cache) (height_of p.pages cache) (nodes_of p.pages cache) (items_of_cache p.pages cache) × ListsRows (rows_of p.part p.pages) cache (items_of_cache p.pages cache)
  each_index cache few =
      let rows = rows_of p.part p.pages in
      let tree = wf.trees cache few in
      let root = root_of p.pages cache in
      elim (some_or_none rows cache) [
        | inl some ↦
            let t = tree.some (any_of _ rows some) in
            let there : root ≢ 0 = tree_some p (levels_of p.pages cache) 1 root passes t.tree in
            simp (ne_eqb root 0 there) (
              record { some = there; few = t.few; tree = t.tree; linked = t.linked; nodes_are = refl; items_are = refl; once = λ j. subst (λ l. times j l ≤ 1) (ap (λ b. if b then [] else nodes_below p.pages (levels_of p.pages cache) root) (ne_eqb root 0 there)) (nodes_once cache j few) },
              t.lists,
            )
        | inr none ↦
            let gone : root ≡ 0 = tree.none (all_of _ rows none) in
            simp (eq-eqb root 0 gone) (
              (gone, refl, refl),
              record { rising = λ i j lt short. absurd (omega (arith, short)); all = all_of _ rows (none_listed rows cache none); only = λ k d lt. absurd (omega (arith, lt)) },
            )
      ]

  in_nodes : (j : ℕ) → 1 ≤ times j (joined (nodes_of p.pages)) → IsSpare (nodes_in p.pages j) → ⊥
  in_nodes j there = (let one = in_one (nodes_of p.pages) j there in index_kind p.pages (root_of p.pages one.0) (height_of p.pages one.0) (nodes_of p.pages one.0) (items_of_cache p.pages one.0) (each_index one.0 one.1).0 j one.2)

  no_nodes : (j k : ℕ) → kind_of (page_at p.pages j) ≡ k → k ≢ LEAF_KIND → k ≢ INNER_KIND → times j (joined (nodes_of p.pages)) ≡ 0
  no_nodes j k kind leaf inner = elim (cases_lt 0 (times j (joined (nodes_of p.pages)))) [
    | inl lt ↦ absurd (in_nodes j lt (record { leaf = λ e. leaf (sym kind ∙ e); inner = λ e. inner (sym kind ∙ e) }))
    | inr le ↦ omega (arith, le)
  ]

  -- how often a page stands in the chains of the buckets
  chained : (j : ℕ) → 1 ≤ j → j < page_count p.pages → times j (all_chains p.pages) ≡ is_data p.pages j
  chained j some lt = elim (cases_eq (kind_of (page_at p.pages j)) DATA_KIND) [
    | inr other ↦ chains_none p.pages j wf.chains lt other ∙ sym (data_none p.pages j other)
    | inl kind ↦ elim (cases_lt (bucket_of (page_at p.pages j)) BUCKETS) [
      | inl few ↦ chains_once p.pages j wf.chains lt kind few ∙ sym (data_one p.pages j kind)
      | inr past ↦
          let none = chains_past p.pages j wf.chains lt past in
          let all = wf.each_once.once j lt in
          let here : bit (nat_le 1 j) ≡ 1 = simp (le-leb 1 j some) refl in
          absurd (omega (arith, none, all, here, placed_times p.pages j, no_nodes j DATA_KIND kind (λ e. absurd (cc e)) (λ e. absurd (cc e)), no_reuse j kind))
    ]
  ]
    where
      no_reuse : (j : ℕ) → kind_of (page_at p.pages j) ≡ DATA_KIND → times j (reuse_chain p.pages) ≡ 0
      no_reuse j kind = elim (cases_lt 0 (times j (reuse_chain p.pages))) [
        | inl there ↦ absurd (cc (sym kind ∙ stands (λ i. kind_of (page_at p.pages i) ≡ REUSE_KIND) (reuse_chain p.pages) wf.reuse j there))
        | inr le ↦ omega (arith, le)
      ]

  spare_chain : HasSpare p.pages
  spare_chain = record {
    kind = wf.reuse;
    once = λ j. omega (arith, placed j, placed_times p.pages j);
    some = all_stand (λ i. 1 ≤ i) (reuse_chain p.pages) (λ j there. walk_some (λ i. reuse_next_of (page_at p.pages i)) (page_count p.pages) (number_in p.pages Reuse) j there);
    below = all_stand (λ i. i < page_count p.pages) (reuse_chain p.pages) (λ j there. stands (λ i. i < page_count p.pages) (placed_pages p.pages) wf.each_once.below j (omega (arith, there, placed_times p.pages j)));
  }

  pub laid_of : 1 ≤ page_count p.pages → IsLaidOut p.pages (items_of_cache p.pages)
  laid_of some = record {
    some = some;
    heights = height_of p.pages;
    nodes = nodes_of p.pages;
    indexes = λ cache few. (each_index cache few).0;
    chains = wf.chains;
    spare = spare_chain;
    first = (let none : bit (nat_le 1 0) ≡ 0 = refl in omega (arith, none, wf.each_once.once 0 (omega (arith, some)), placed_times p.pages 0));
    each = λ j le lt. (let here : bit (nat_le 1 j) ≡ 1 = simp (le-leb 1 j le) refl in omega (arith, here, wf.each_once.once j lt, placed_times p.pages j, chained j le lt));
  }

  pub lists_of : (cache : ℕ) → cache < CACHES → ListsRows (rows_of p.part p.pages) cache (items_of_cache p.pages cache)
  lists_of cache few = (each_index cache few).1
