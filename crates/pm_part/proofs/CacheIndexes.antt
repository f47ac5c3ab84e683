-- The index of each cache of a well-formed partition.
use Rattle.std.proofs.Common.{◌≡◌, ◌≢◌, ℕ, zero, suc, ◌+◌, ◌<◌, ◌≤◌, ◌⊎◌, List, [], ◌∷◌, ◌++◌, Bool, true, false, None, refl, sym, ap, subst, ◌∙◌, inl, inr, arith}
use Rattle.std.specs.Prelude.{Any, nat_le, if◌then◌else◌}
use Rattle.std.specs.List.{flat_map, range_with_len}
use Rattle.std.proofs.lemmas.Bool.{cases_eq, cases_lt, ne_eqb}
use Rattle.pm_types.specs.declared.limits.TheConstants.{CACHES}
use Rattle.pm_types.specs.declared.shape.Shape.{Shape}
use Rattle.pm_btpage.specs.IndexPages.{Item, IsRising}
use Rattle.pm_btpage.specs.Finds.{IsAt}
use Rattle.pm_pages.specs.declared.row.Row.{Row}
use Rattle.pm_pages.specs.Rows.{Partition, page_count, rows_of}
use Rattle.pm_pages.specs.Chains.{times, bucket_chain, reuse_chain}
use Rattle.pm_pages.specs.Trees.{root_of, levels_of, nodes_of, nodes_below, items_below, IsItemOf, ListsRows}
use Rattle.pm_pages.specs.Paged.{Paged}
use Rattle.pm_pages.specs.WellFormed.{IsWellFormed, placed_pages, EachOnce}
use Rattle.pm_pages.proofs.ChainWalks.{times-append, stands}
use Rattle.pm_tree.specs.Maps.{get_in}
use Rattle.pm_tree.specs.Indexes.{IsIndex}
use Rattle.pm_pages.specs.SoundPages.{PassesAll}
use Rattle.pm_tree.proofs.MapLists.{get_found}
use Rattle.pm_tree.proofs.SoundLooks.{tree_some}
use Rattle.pm_part.proofs.KeyedRows.{HasKey}
use Rattle.pm_pages.proofs.Quantified.{Holds, Each, each_of, all_of, holds_of, any_of}

-- a cache has an index, which lists its rows
pub record HasIndex (pages : Partition) (rows : List Row) (cache : ℕ) : Type 0 where
  pub height : ℕ
  pub nodes : List ℕ
  pub items : List Item
  pub index : IsIndex pages (root_of pages cache) height nodes items
  pub lists : ListsRows rows cache items

some_or_none : (rows : List Row) (cache : ℕ) → Holds (λ (row : Row). row.cache ≡ cache) rows ⊎ Each (λ (row : Row). row.cache ≢ cache) rows
some_or_none [] cache = inr tt
some_or_none (row ∷ rows) cache = elim (cases_eq row.cache cache) [
  | inl here ↦ inl (inl here)
  | inr other ↦ elim (some_or_none rows cache) [ inl later ↦ inl (inr later) | inr none ↦ inr (other, none) ]
]

none_listed : (rows : List Row) (cache : ℕ) → Each (λ (row : Row). row.cache ≢ cache) rows → Each (λ (row : Row). row.cache ≡ cache → Any (λ (item : Item). IsItemOf cache item row) []) rows
none_listed [] cache none = tt
none_listed (row ∷ rows) cache none = (λ e. absurd (none.0 e), none_listed rows cache none.1)

times_flat : (f : ℕ → List ℕ) (from n i j : ℕ) → from ≤ i → i < from + n → times j (f i) ≤ times j (flat_map f (range_with_len from n))
times_flat f from zero i j low high = absurd (omega (arith, low, high))
times_flat f from (suc n) i j low high = elim (cases_eq i from) [
  | inl here ↦ omega (arith, ap (λ k. times j (f k)) here, cut, times-append j (f from) (flat_map f (range_with_len (from + 1) n)))
  | inr other ↦ omega (arith, cut, times_flat f (from + 1) n i j (omega (arith, low, above i from low other)) (omega (arith, high)), times-append j (f from) (flat_map f (range_with_len (from + 1) n)))
]
  where
    cut : times j (flat_map f (range_with_len from (suc n))) ≡ times j (f from ++ flat_map f (range_with_len (from + 1) n))
    cut = refl

    above : (i from : ℕ) → from ≤ i → (i ≡ from → ⊥) → from < i
    above i from low other = elim (cases_lt from i) [ inl lt ↦ lt | inr ge ↦ absurd (other (omega (arith, ge, low))) ]

at_most_one : (b : Bool) → (if b then 1 else 0) ≤ 1
at_most_one true = omega arith
at_most_one false = omega arith

-- a page stands once at most
pub placed_once : (pages : Partition) → EachOnce pages → (j : ℕ) → times j (placed_pages pages) ≤ 1
placed_once pages each j = elim (cases_lt j (page_count pages)) [
  | inl lt ↦ omega (arith, each.once j lt, at_most_one (nat_le 1 j))
  | inr ge ↦ elim (cases_lt 0 (times j (placed_pages pages))) [
    | inl some ↦ absurd (omega (arith, stands (λ i. i < page_count pages) (placed_pages pages) each.below j (omega (arith, some)), ge))
    | inr none ↦ omega (arith, none)
  ]
]

nodes_once : (pages : Partition) (cache : ℕ) → EachOnce pages → cache < CACHES → (j : ℕ) → times j (nodes_of pages cache) ≤ 1
unfolding placed_pages
nodes_once pages cache each few j =
    let trees = flat_map (nodes_of pages) (range_with_len 0 CACHES) in
    let rest = flat_map (bucket_chain pages) (range_with_len 0 16) ++ reuse_chain pages in
    omega (arith, placed_once pages each j, times_flat (nodes_of pages) 0 CACHES cache j (omega arith) few, times-append j trees rest)

-- each cache of a well-formed partition has an index
pub index_of : (shape : Shape) (p : Paged) (cache : ℕ) → shape.page_size ≡ p.page_size → shape.max_rows ≡ p.max_rows → IsWellFormed shape p.part p.pages → cache < CACHES → HasIndex p.pages (rows_of p.part p.pages) cache
index_of shape p cache size most wf few =
    let rows = rows_of p.part p.pages in
    let tree = wf.trees cache few in
    elim (some_or_none rows cache) [
      | inl some ↦
          let t = tree.some (any_of _ rows some) in
          let root = root_of p.pages cache in
          let levels = levels_of p.pages cache in
          let passes : PassesAll p = record { shape = shape; page_size = size; max_rows = most; pass = wf.all_pass } in
          let there : root ≢ 0 = tree_some p levels 1 root passes t.tree in
          let nodes_are : nodes_of p.pages cache ≡ nodes_below p.pages levels root = ap (λ b. if b then [] else nodes_below p.pages levels root) (ne_eqb root 0 there) in
          record {
            height = suc levels;
            nodes = nodes_below p.pages levels root;
            items = items_below p.pages levels root;
            index = record { some = there; few = t.few; tree = t.tree; linked = t.linked; nodes_are = refl; items_are = refl; once = λ j. subst (λ l. times j l ≤ 1) nodes_are (nodes_once p.pages cache wf.each_once few j) };
            lists = t.lists;
          }
      | inr none ↦ record {
        height = zero;
        nodes = [];
        items = [];
        index = (tree.none (all_of _ rows none), refl, refl);
        lists = record { rising = λ i j lt short. absurd (omega (arith, short)); all = all_of _ rows (none_listed rows cache none); only = λ k d lt. absurd (omega (arith, lt)) };
      }
    ]

at_item : (items : List Item) (key : List ℕ) → Holds (λ (item : Item). item.key ≡ key) items → (i : ℕ) × IsAt items key i
at_item [] key any = absurd any
at_item (item ∷ items) key any = elim any [
  | inl here ↦ (0, record { in_range = omega arith; has_key = here })
  | inr later ↦ (let at = at_item items key later in (suc at.0, record { in_range = omega (arith, at.1.in_range); has_key = at.1.has_key }))
]

item_keys : (cache : ℕ) (key : List ℕ) (row : Row) (items : List Item) → row.key ≡ key → Holds (λ (item : Item). IsItemOf cache item row) items → Holds (λ (item : Item). item.key ≡ key) items
item_keys cache key row [] same any = absurd any
item_keys cache key row (item ∷ items) same any = elim any [
  | inl here ↦ inl (here.key ∙ same)
  | inr later ↦ inr (item_keys cache key row items same later)
]

none_of : (all : List Row) (cache : ℕ) (key : List ℕ) (items : List Item) → IsRising items → get_in items key ≡ None → Each (λ (row : Row). row.cache ≡ cache → Any (λ (item : Item). IsItemOf cache item row) items) all → Each (λ row. HasKey cache key row → ⊥) all
none_of [] cache key items rising none listed = tt
none_of (row ∷ rows) cache key items rising none listed = (
  λ has.
      let at = at_item items key (item_keys cache key row items has.key_is (holds_of _ items (listed.0 has.cache_is))) in
      absurd (cc (sym none ∙ get_found items key at.0 rising at.1)),
  none_of rows cache key items rising none listed.1,
)

-- where the index has no item of a key, no row has it
pub no_row : (rows : List Row) (cache : ℕ) (key : List ℕ) (items : List Item) → ListsRows rows cache items → get_in items key ≡ None → Each (λ row. HasKey cache key row → ⊥) rows
no_row rows cache key items lists none = none_of rows cache key items lists.rising none (each_of _ rows lists.all)
