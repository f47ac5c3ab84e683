-- A partition that is laid out, whose pages pass their checks and whose indexes list its rows, each key once, is well formed.
use Rattle.std.proofs.Common.{◌≡◌, ◌≢◌, ℕ, zero, suc, ◌+◌, ◌-◌, ◌*◌, ◌<◌, ◌≤◌, ◌++◌, List, [], ◌∷◌, Bool, true, false, length, refl, sym, ap, subst, ◌∙◌, inl, inr, arith}
use Rattle.std.specs.Prelude.{if◌then◌else◌, nat_le, nat_lt, All, Any, IfSome, IsSomeAnd}
use Rattle.std.specs.List.{flat_map, range_with_len}
use Rattle.std.proofs.Math.Nat.{div-lt_iff_lt-mul}
use Rattle.std.proofs.lemmas.Bool.{cases_eq, cases_lt, eq-eqb, ne_eqb, le-leb}
use Rattle.pm_types.specs.declared.limits.TheConstants.{CACHES}
use Rattle.pm_types.specs.declared.shape.Shape.{Shape}
use Rattle.pm_types.specs.PageSizes.{IsPageSize}
use Rattle.pm_types.specs.Ids.{page_id}
use Rattle.pm_btpage.specs.IndexPages.{Item}
use Rattle.pm_data.specs.declared.layout.TheConstants.{DATA_KIND}
use Rattle.pm_data.specs.DataPages.{IsDataPage, room_of, free_item, rows_of as items_of_page, low_of, count_of}
use Rattle.pm_meta.specs.declared.layout.TheConstants.{BUCKETS}
use Rattle.pm_meta.specs.declared.slots.MetaSlot.TheVariants.{Bucket}
use Rattle.pm_pages.specs.declared.row.Row.{Row}
use Rattle.pm_pages.specs.declared.limits.TheConstants.{LEVELS_MAX}
use Rattle.pm_pages.specs.Rows.{Partition, page_at, page_count, number_in, kind_of, bytes_of, rows_of}
use Rattle.pm_pages.specs.Chains.{times, bucket_of, bucket_chain, reuse_chain, next_of}
use Rattle.pm_pages.specs.Trees.{root_of, levels_of, nodes_of, nodes_below, ListsRows, IsItemOf, HasTree, IsTreeOf}
use Rattle.pm_pages.specs.Passes.{Passes, PassesAsMeta}
use Rattle.pm_pages.specs.Paged.{Paged, PassesIn}
use Rattle.pm_pages.specs.SoundPages.{PassesAll}
use Rattle.pm_pages.specs.WellFormed.{AllPass, IsWellFormed, HasKeysOnce, placed_pages}
use Rattle.pm_pages.proofs.ChainWalks.{stands, all_stand, walk_some}
use Rattle.pm_pages.proofs.PageReads.{page_at-below}
use Rattle.pm_pages.proofs.PassingLooks.{page_passes, page_there}
use Rattle.pm_tree.specs.Indexes.{IsIndex}
use Rattle.pm_tree.specs.Nodes.{nodes_in, nodes_under}
use Rattle.pm_tree.specs.Puts.{half_of}
use Rattle.pm_tree.proofs.Decoded.{nodes_same, items_same, tree_to}
use Rattle.pm_tree.proofs.PartedKeys.{tree_some}
use Rattle.pm_part.specs.LaidOut.{joined, IsLaidOut, is_data}
use Rattle.pm_part.proofs.JoinedLists.{in_one}
use Rattle.pm_part.proofs.SameIndexes.{index_below}
use Rattle.pm_part.proofs.Layouts.{data_one, data_none, in_index}
use Rattle.pm_part.proofs.Levels.{levels_are}
use Rattle.pm_part.proofs.PlacedPages.{all_chains, chains_none, chains_once, placed_times}
use Rattle.pm_pages.proofs.Quantified.{Holds, Each, each_of, holds_of}

abbrev bit : Bool → ℕ
bit b = if b then 1 else 0

-- where each list is the same, the joined ones are
same_flat : (f g : ℕ → List ℕ) (from n : ℕ) → ((c : ℕ) → from ≤ c → c < from + n → g c ≡ f c) → flat_map g (range_with_len from n) ≡ flat_map f (range_with_len from n)
same_flat f g from zero same = refl
same_flat f g from (suc n) same =
    ap (λ l. l ++ flat_map g (range_with_len (from + 1) n)) (same from (omega arith) (omega arith))
    ∙ ap (λ l. f from ++ l) (same_flat f g (from + 1) n (λ c low high. same c (omega (arith, low)) (omega (arith, high))))

-- a data page has a bucket
bucket_small : (page : List ℕ) → IsDataPage page → bucket_of page < BUCKETS
bucket_small page is =
    let some : 0 < length page = omega (arith, is.rows.full, is.rows.low) in
    (div-lt_iff_lt-mul {k = length page} {x = room_of page * 16} {y = 16} some).1 (omega (arith, room page is))
  where
    at_most : (b : Bool) (a n : ℕ) → a < n → (if b then a else 0) < n
    at_most true a n lt = lt
    at_most false a n lt = omega (arith, lt)

    room : (page : List ℕ) → IsDataPage page → room_of page < length page
    room page is = at_most (nat_lt (free_item (items_of_page page)) 254) (low_of page - 32 - 4 * count_of page) (length page) (omega (arith, is.rows.full, is.rows.low))

-- half of what an index page of any size has room for
half_some : (size : ℕ) → IsPageSize size → 6 ≤ half_of size
half_some size is = elim is [ inl e ↦ omega (arith, e) | inr r ↦ elim r [ inl e ↦ omega (arith, e) | inr r2 ↦ elim r2 [ inl e ↦ omega (arith, e) | inr r3 ↦ elim r3 [ inl e ↦ omega (arith, e) | inr e ↦ omega (arith, e) ] ] ] ]

module _ (p : Paged) (all : PassesAll p) (size : IsPageSize p.page_size) where
  -- the bytes of a page below the page count pass its check
  pub here_passes : (j : ℕ) → j < page_count p.pages → PassesIn p j (page_at p.pages j)
  here_passes j lt = (let page = page_there p j all lt in subst (PassesIn p j) (sym (page_at-below p.pages j lt ∙ ap bytes_of page.1)) (page_passes p j page.0 all lt page.1))

  here_size : (j : ℕ) → PassesIn p j (page_at p.pages j) → length (page_at p.pages j) ≡ p.page_size
  here_size zero passes = passes.size
  here_size (suc i) passes = passes.size

  pub large : (j : ℕ) → j < page_count p.pages → 6 ≤ (nodes_in p.pages j).half
  large j lt = omega (arith, half_some p.page_size size, ap half_of (here_size j (here_passes j lt)))

  pub wide : (j : ℕ) → j < page_count p.pages → 1 ≤ (nodes_in p.pages j).half
  wide j lt = omega (arith, large j lt)

  pub few_buckets : (j : ℕ) → 1 ≤ j → j < page_count p.pages → kind_of (page_at p.pages j) ≡ DATA_KIND → bucket_of (page_at p.pages j) < BUCKETS
  few_buckets zero some lt kind = absurd (omega (arith, some))
  few_buckets (suc i) some lt kind = elim (here_passes (suc i) lt).kind [
    | inl meta ↦ absurd (cc (sym kind ∙ meta.well_made.form.kind))
    | inr r ↦ elim r [
      | inl index ↦ absurd (elim index.well_made.head.kind [ inl k ↦ absurd (cc (sym kind ∙ k)) | inr k ↦ absurd (cc (sym kind ∙ k)) ])
      | inr r2 ↦ elim r2 [
        | inl rows ↦ bucket_small (page_at p.pages (suc i)) rows.well_made
        | inr reuse ↦ absurd (cc (sym kind ∙ reuse.well_made.kind))
      ]
    ]
  ]

-- ---- the tree of a cache

-- what is wanted of the index of a cache
pub record IsCacheTree (pages : Partition) (rows : List Row) (cache : ℕ) (nodes : List ℕ) : Type 0 where
  pub tree : HasTree pages rows cache
  pub nodes_are : nodes_of pages cache ≡ nodes

none_here : (rows : List Row) (cache : ℕ) (item : Item) → Each (λ (row : Row). row.cache ≢ cache) rows → Holds (λ (row : Row). IsItemOf cache item row) rows → ⊥
none_here [] cache item none has = has
none_here (row ∷ rows) cache item none has = elim has [ inl here ↦ none.0 here.cache_is | inr later ↦ none_here rows cache item none.1 later ]

listed : (rows : List Row) (cache : ℕ) → Each (λ (row : Row). row.cache ≡ cache → Any (λ (item : Item). IsItemOf cache item row) []) rows → Holds (λ (row : Row). row.cache ≡ cache) rows → ⊥
listed [] cache each has = has
listed (row ∷ rows) cache each has = elim has [ inl here ↦ holds_of _ [] (each.0 here) | inr later ↦ listed rows cache each.1 later ]

some_item : (items : List Item) → 0 < length items → (rows : List Row) (cache : ℕ) → Each (λ (item : Item). Any (IsItemOf cache item) rows) items → Each (λ (row : Row). row.cache ≢ cache) rows → ⊥
some_item [] some rows cache only none = omega (arith, some)
some_item (item ∷ items) some rows cache only none = none_here rows cache item none (holds_of _ rows only.0)

cache_tree : (pages : Partition) (rows : List Row) (cache height : ℕ) (nodes : List ℕ) (items : List Item)
    → ((j : ℕ) → 1 ≤ times j nodes → 1 ≤ (nodes_in pages j).half)
    → IsIndex pages (root_of pages cache) height nodes items → ListsRows rows cache items → IsCacheTree pages rows cache nodes
cache_tree pages rows cache zero nodes items wide_nodes index lists = record {
  tree = record {
    none = λ none. index.0;
    some = λ some. absurd (listed rows cache (each_of _ rows (subst (λ (l : List Item). All (λ (row : Row). row.cache ≡ cache → Any (λ (item : Item). IsItemOf cache item row) l) rows) index.2 lists.all)) (holds_of _ rows some));
  };
  nodes_are = simp (eq-eqb (root_of pages cache) 0 index.0) (sym index.1);
}
cache_tree pages rows cache (suc levels) nodes items wide_nodes index lists =
    let root = root_of pages cache in
    let levels_is : levels_of pages cache ≡ levels = levels_are pages LEVELS_MAX levels 1 root (omega (arith, index.few)) index.tree in
    let at : nodes ≡ nodes_under (nodes_in pages) levels root = index.nodes_are ∙ sym (nodes_same pages levels root) in
    let some : 0 < length items = subst (λ (l : List Item). 0 < length l) (items_same pages levels root ∙ sym index.items_are)
    (tree_some (nodes_in pages) levels 1 root (omega arith) (λ j there. wide_nodes j (subst (λ l. 1 ≤ times j l) (sym at) there)) (tree_to pages levels 1 root index.tree)) in
    record {
      tree = record {
        none = λ none. absurd (some_item items some rows cache (each_of _ items lists.only) (each_of _ rows none));
        some = λ any. subst (λ n. IsTreeOf pages rows cache n root) (sym levels_is) (record { few = index.few; tree = index.tree; lists = subst (ListsRows rows cache) index.items_are lists; linked = index.linked });
      };
      nodes_are = simp (ne_eqb root 0 index.some) (ap (λ n. nodes_below pages n root) levels_is ∙ sym index.nodes_are);
    }

-- ---- all together

module _ (shape : Shape) (p : Paged) (page_size : shape.page_size ≡ p.page_size) (max_rows : shape.max_rows ≡ p.max_rows) (all : PassesAll p) (size : IsPageSize p.page_size)
    (items : ℕ → List Item) (laid : IsLaidOut p.pages items)
    (lists : (cache : ℕ) → cache < CACHES → ListsRows (rows_of p.part p.pages) cache (items cache)) where
  trees : (cache : ℕ) → cache < CACHES → IsCacheTree p.pages (rows_of p.part p.pages) cache (laid.nodes cache)
  trees cache few = cache_tree p.pages (rows_of p.part p.pages) cache (laid.heights cache) (laid.nodes cache) (items cache)
      (λ j there. wide p all size j (index_below p.pages (root_of p.pages cache) (laid.heights cache) (laid.nodes cache) (items cache) (laid.indexes cache few) j there))
      (laid.indexes cache few) (lists cache few)

  same_nodes : joined (nodes_of p.pages) ≡ joined laid.nodes
  same_nodes = same_flat laid.nodes (nodes_of p.pages) 0 CACHES (λ c low high. (trees c (omega (arith, high))).nodes_are)

  chained : (j : ℕ) → 1 ≤ j → j < page_count p.pages → times j (all_chains p.pages) ≡ is_data p.pages j
  chained j some lt = elim (cases_eq (kind_of (page_at p.pages j)) DATA_KIND) [
    | inr other ↦ chains_none p.pages j laid.chains lt other ∙ sym (data_none p.pages j other)
    | inl kind ↦ chains_once p.pages j laid.chains lt kind (few_buckets p all size j some lt kind) ∙ sym (data_one p.pages j kind)
  ]

  first_chain : times 0 (all_chains p.pages) ≡ 0
  first_chain = elim (cases_lt 0 (times 0 (all_chains p.pages))) [
    | inl there ↦ (let one = in_one (bucket_chain p.pages) 0 there in absurd (omega (arith, walk_some (λ i. next_of (page_at p.pages i)) (page_count p.pages) (number_in p.pages (Bucket one.0)) 0 one.2)))
    | inr le ↦ omega (arith, le)
  ]

  first_spare : times 0 (reuse_chain p.pages) ≡ 0
  first_spare = elim (cases_lt 0 (times 0 (reuse_chain p.pages))) [
    | inl there ↦ absurd (omega (arith, stands (λ i. 1 ≤ i) (reuse_chain p.pages) laid.spare.some 0 there))
    | inr le ↦ omega (arith, le)
  ]

  -- how often a page is placed
  counted : (j : ℕ) → j < page_count p.pages → times j (placed_pages p.pages) ≡ bit (nat_le 1 j)
  counted zero lt = omega (arith, placed_times p.pages 0, ap (λ l. times 0 l) same_nodes, laid.first, first_chain, first_spare)
  counted (suc i) lt =
      let here : bit (nat_le 1 (suc i)) ≡ 1 = simp (le-leb 1 (suc i) (omega arith)) refl in
      omega (arith, here, placed_times p.pages (suc i), ap (λ l. times (suc i) l) same_nodes, chained (suc i) (omega arith) lt, laid.each (suc i) (omega arith) lt)

  below : (j : ℕ) → 1 ≤ times j (placed_pages p.pages) → j < page_count p.pages
  below j there = elim (cases_lt 0 (times j (joined laid.nodes))) [
    | inl node ↦ (in_index p.pages items laid j node).1
    | inr none ↦ elim (cases_lt 0 (times j (reuse_chain p.pages))) [
      | inl spare ↦ stands (λ i. i < page_count p.pages) (reuse_chain p.pages) laid.spare.below j spare
      | inr no_spare ↦
          let one = in_one (bucket_chain p.pages) j (omega (arith, there, none, no_spare, placed_times p.pages j, ap (λ l. times j l) same_nodes)) in
          stands (λ i. i < page_count p.pages) (bucket_chain p.pages one.0) (laid.chains one.0 one.1).exact.below j one.2
    ]
  ]

  pub well_formed_of : HasKeysOnce shape p.part p.pages → IsWellFormed shape p.part p.pages
  well_formed_of keys = record {
    all_pass = passing;
    keys_once = keys;
    trees = λ cache few. (trees cache few).tree;
    chains = laid.chains;
    reuse = laid.spare.kind;
    each_once = record { below = all_stand (λ i. i < page_count p.pages) (placed_pages p.pages) below; once = λ j lt. counted j lt };
  }
    where
      passing : AllPass shape p.part p.pages
      passing = record {
        meta = subst (λ (q : ℕ × ℕ). IfSome (p.pages 0) (PassesAsMeta q.0 q.1 (page_id p.part 0))) {x = (all.shape.page_size, all.shape.max_rows)} {y = (shape.page_size, shape.max_rows)} (λ k. ((all.page_size ∙ sym page_size) k, (all.max_rows ∙ sym max_rows) k)) all.pass.meta;
        each = λ i lt. subst (λ (q : ℕ × ℕ). IsSomeAnd (p.pages i) (Passes q.0 q.1 (page_id p.part i))) {x = (all.shape.page_size, all.shape.max_rows)} {y = (shape.page_size, shape.max_rows)} (λ k. ((all.page_size ∙ sym page_size) k, (all.max_rows ∙ sym max_rows) k)) (all.pass.each i lt);
      }
