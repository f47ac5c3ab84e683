-- Rows that trees list by rising key: no two of a cache have one key. And what a search among rising items finds.
use Rattle.std.proofs.Common.{◌≡◌, ◌≢◌, ℕ, ◌+◌, ◌*◌, ◌/◌, ◌%◌, ◌<◌, ◌≤◌, List, length, [], get_or, nat_eq, false, true, Result, Ok, Err, refl, sym, ap, subst, ◌∙◌, inl, inr, arith, Less, Greater}
use Rattle.std.specs.Prelude.{◌^◌, ◌↔◌, All, Any, AllPairs, IfOk, IfErr}
use Rattle.std.specs.Ordering.{nat_cmp, is_lt, ordering_reverse}
use Rattle.std.specs.Cmp.Lexicographic.{slice_cmp}
use Rattle.std.specs.List.Sorted.{IsBinarySearchResult, IsSearchInRange, IsSortedBy}
use Rattle.std.proofs.lemmas.Bool.{cases_lt, eq-eqb, eqb-true, le-ltb}
use Rattle.std.proofs.lemmas.Cmp.{nat_list_cmp_total}
use Rattle.std.proofs.lemmas.List.{get_or_default, length-map}
use Rattle.std.proofs.lemmas.List.Sorted.{searchable_from_sorted}
use Rattle.std.proofs.lemmas.Map.Lookups.{exact_bytes}
use Rattle.pm_types.specs.declared.limits.TheConstants.{CACHES}
use Rattle.pm_btpage.specs.IndexPages.{Item, IsBelow, IsRising, key_in}
use Rattle.pm_data.specs.declared.layout.TheConstants.{DATA_KIND}
use Rattle.pm_pages.specs.declared.row.Row.{Row}
use Rattle.pm_pages.specs.declared.well_formed.listing.TreeItem.{TreeItem}
use Rattle.pm_pages.specs.PageLists.{AreReadable}
use Rattle.pm_pages.specs.Rows.{Partition, page_at, page_count, kind_of, rows_of}
use Rattle.pm_pages.specs.TreeItems.{as_item, as_items, HasKey}
use Rattle.pm_pages.specs.Trees.{IsItemOf, HasTree}
use Rattle.pm_pages.specs.WellFormed.{AreDifferent}
use Rattle.pm_pages.proofs.PageReads.{reads}
use Rattle.pm_pages.proofs.Quantified.{all_of, any_of, each_map, holds_of, meets}
use Rattle.pm_pages.proofs.RowPlaces.{StandsAt, all_stand, links_once, live_row, row_stands}
use Rattle.pm_pages.proofs.TreeLists.{key_in-as_items}

-- no key is below itself
not_below : (key : List ℕ) → IsBelow key key → ⊥
not_below key below = (let back = sym below ∙ nat_list_cmp_total.antisymm key key ∙ ap ordering_reverse below in absurd (cc back))

-- where two rising items have one key, they are one
pub same_place : (items : List Item) (i j : ℕ) → IsRising items → i < length items → j < length items → key_in items i ≡ key_in items j → i ≡ j
same_place items i j rising i_lt j_lt same = elim (cases_lt i j) [
  | inl lt ↦ absurd (not_below (key_in items j) (subst (λ (k : List ℕ). IsBelow k (key_in items j)) same (rising i j lt j_lt)))
  | inr ge ↦ elim (cases_lt j i) [
    | inl gt ↦ absurd (not_below (key_in items j) (subst (λ (k : List ℕ). IsBelow (key_in items j) k) same (rising j i gt i_lt)))
    | inr le ↦ omega (arith, ge, le)
  ]
]

-- items that rise are sorted by key
sorted_items : (items : List TreeItem) → IsRising (as_items items) → IsSortedBy (λ (a b : TreeItem). is_lt (slice_cmp nat_cmp a.key b.key)) items
sorted_items items rising k d low lt =
    let here = key_in-as_items items k d (omega (arith, lt)) in
    let next = key_in-as_items items (k + 1) d lt in
    let below : slice_cmp nat_cmp (get_or items k d).key (get_or items (k + 1) d).key ≡ Less = subst (λ (p : List ℕ × List ℕ). IsBelow p.0 p.1) {x = (key_in (as_items items) k, key_in (as_items items) (k + 1))} {y = ((get_or items k d).key, (get_or items (k + 1) d).key)} (λ t. (here t, next t)) (rising k (k + 1) (omega arith) (omega (arith, lt, length-map items as_item))) in
    ap is_lt (nat_list_cmp_total.antisymm (get_or items (k + 1) d).key (get_or items k d).key ∙ ap ordering_reverse below)

-- what a search for a key among rising items finds
pub record Finds (items : List TreeItem) (key : List ℕ) (r : Result ℕ ℕ) : Type 0 where
  pub found : IfOk r (λ at. (at < length items) × ((d : TreeItem) → (get_or items at d).key ≡ key))
  pub absent : IfErr r (λ at. All (λ item. item.key ≢ key) items)

pub finds : (items : List TreeItem) (key : List ℕ) (r : Result ℕ ℕ) → IsRising (as_items items) → IsSearchInRange r (length items) → IsBinarySearchResult (λ (item : TreeItem). slice_cmp nat_cmp item.key key) items r → Finds items key r
finds items key (Ok at) rising in_range equal = record { found = (in_range, λ d. exact_bytes (get_or items at d).key key (equal d)); absent = tt }
finds items key (Err at) rising in_range parted = record {
  found = tt;
  absent = λ k d lt same.
      let sides = parted (searchable_from_sorted nat_list_cmp_total (λ (item : TreeItem). item.key) items key (sorted_items items rising)) in
      elim (cases_lt k at) [
        | inl before ↦ not_below key (subst (λ (x : List ℕ). IsBelow x key) same (sides.0 k d (omega arith) before))
        | inr after ↦ (let above : slice_cmp nat_cmp key key ≡ Greater = subst (λ (x : List ℕ). slice_cmp nat_cmp x key ≡ Greater) same (sides.1 k d after lt) in not_below key (nat_list_cmp_total.antisymm key key ∙ ap ordering_reverse above))
      ];
}

-- the item of the key that was found is the one that may be the row's
pub item_found : (items : List TreeItem) (row : Row) (at : ℕ) (d : TreeItem) → IsRising (as_items items) → Finds items row.key (Ok at) → (nat_eq (get_or items at d).word row.link.0 ≡ true) ↔ Any (λ item. IsItemOf row.cache (as_item item) row) items
item_found items row at d rising finds' = (to, from)
  where
    there : at < length items
    there = finds'.found.0

    to : nat_eq (get_or items at d).word row.link.0 ≡ true → Any (λ item. IsItemOf row.cache (as_item item) row) items
    to same = (at, get_or items at d, there, get_or_default items at (get_or items at d) d there, record { cache_is = refl; key = finds'.found.1 d; word = eqb-true (get_or items at d).word row.link.0 same })

    from : Any (λ item. IsItemOf row.cache (as_item item) row) items → nat_eq (get_or items at d).word row.link.0 ≡ true
    from any =
        let is : get_or items any.0 d ≡ any.1 = get_or_default items any.0 d any.1 any.2 ∙ any.3 in
        let key_there : key_in (as_items items) any.0 ≡ row.key = key_in-as_items items any.0 d any.2 ∙ ap (λ (x : TreeItem). x.key) is ∙ any.4.key in
        let key_here : key_in (as_items items) at ≡ row.key = key_in-as_items items at d there ∙ finds'.found.1 d in
        let place : any.0 ≡ at = same_place (as_items items) any.0 at rising (omega (arith, any.2, length-map items as_item)) (omega (arith, there, length-map items as_item)) (key_there ∙ sym key_here) in
        eq-eqb (get_or items at d).word row.link.0 (ap (λ n. (get_or items n d).word) (sym place) ∙ ap (λ (x : TreeItem). x.word) is ∙ any.4.word)

-- where the key wasn't found no item is the row's
pub item_absent : (items : List TreeItem) (row : Row) (at : ℕ) → Finds items row.key (Err at) → (false ≡ true) ↔ Any (λ item. IsItemOf row.cache (as_item item) row) items
item_absent items row at finds' = (
  λ no. absurd (cc no),
  λ any. absurd (finds'.absent any.0 any.1 any.2 (ap (λ (x : TreeItem). x.key) any.3 ∙ any.4.key)),
)

-- rows of one key that are among the same rising items have one link
same_link : (items : List Item) (cache : ℕ) (a b : Row) → IsRising items → Any (λ item. IsItemOf cache item a) items → Any (λ item. IsItemOf cache item b) items → a.key ≡ b.key → a.link ≡ b.link
same_link items cache a b rising of_a of_b same =
    let blank : Item = record { key = []; word = 0 } in
    let at_a : get_or items of_a.0 blank ≡ of_a.1 = get_or_default items of_a.0 blank of_a.1 of_a.2 ∙ of_a.3 in
    let at_b : get_or items of_b.0 blank ≡ of_b.1 = get_or_default items of_b.0 blank of_b.1 of_b.2 ∙ of_b.3 in
    let keys : key_in items of_a.0 ≡ key_in items of_b.0 = ap (λ (x : Item). x.key) at_a ∙ of_a.4.key ∙ same ∙ sym of_b.4.key ∙ sym (ap (λ (x : Item). x.key) at_b) in
    let place = same_place items of_a.0 of_b.0 rising of_a.2 of_b.2 keys in
    let one : of_a.1 ≡ of_b.1 = sym at_a ∙ ap (λ n. get_or items n blank) place ∙ at_b in
    let words : a.link.0 ≡ b.link.0 = sym of_a.4.word ∙ ap (λ (x : Item). x.word) one ∙ of_b.4.word in
    let same_link_is : a.link ≡ b.link = ap (λ n. record { 0 = n }) words in
    same_link_is

-- rows of one cache that trees list have different keys
pub keys_differ : (part : ℕ) (pages : Partition) → part < 2 ^ 16 → page_count pages ≤ 2 ^ 32 → All (λ row. row.cache < CACHES) (rows_of part pages) → ((cache : ℕ) → cache < CACHES → HasTree pages (rows_of part pages) cache) → AllPairs AreDifferent (rows_of part pages)
keys_differ part pages part_fits few caches trees i j d lt short same_cache same_key =
    let rows = rows_of part pages in
    let a : Row = get_or rows i d in
    let b : Row = get_or rows j d in
    let i_lt : i < length rows = omega (arith, lt, short) in
    let lists = ((trees a.cache (caches i d i_lt)).some (i, a, i_lt, get_or_default rows i a d i_lt, refl)).lists in
    links_once part pages part_fits few i j d lt short (same_link _ a.cache a b lists.rising (lists.all i d i_lt refl) (lists.all j d short (sym same_cache)) same_key)

-- each row of readable pages is of a cache that there is
pub rows_cached : (part : ℕ) (pages : Partition) → AreReadable pages → All (λ row. row.cache < CACHES) (rows_of part pages)
rows_cached part pages readable = all_of (λ (row : Row). row.cache < CACHES) (rows_of part pages) (each_map (StandsAt part pages) (λ row. row.cache < CACHES) (rows_of part pages) (λ row at.
    let is = (reads pages at.at readable at.below).data_page at.kind in
    subst (λ (r : Row). r.cache < CACHES) (sym at.is) (live_row (page_at pages at.at) at.item at.bytes is at.live).cache) (all_stand part pages))

-- a page past the last one is of no kind
kind_past : (pages : Partition) (i : ℕ) → page_count pages ≤ i → kind_of (page_at pages i) ≡ DATA_KIND → ⊥
kind_past pages i past kind =
    let none : page_at pages i ≡ [] = simp (le-ltb i (page_count pages) past) refl in
    (let zero_kind : 0 ≡ DATA_KIND = sym (ap kind_of none) ∙ kind in absurd (cc zero_kind))

-- an item is that of a row exactly where its word names a page of the partition, and its item there is of the key
pub is_item : (part cache word : ℕ) (key : List ℕ) (pages : Partition) → part < 2 ^ 16 → page_count pages < 2 ^ 32 → Any (IsItemOf cache (record { key = key; word = word })) (rows_of part pages)
    ↔ ((word % 2 ^ 56 ≡ 2 ^ 48 + part * 2 ^ 32 + word % 2 ^ 56 % 2 ^ 32) × HasKey (page_at pages (word % 2 ^ 56 % 2 ^ 32)) (word / 2 ^ 56) cache key)
is_item part cache word key pages part_fits few = (to, from)
  where
    Names : Type 0
    Names = (word % 2 ^ 56 ≡ 2 ^ 48 + part * 2 ^ 32 + word % 2 ^ 56 % 2 ^ 32) × HasKey (page_at pages (word % 2 ^ 56 % 2 ^ 32)) (word / 2 ^ 56) cache key

    of_row : (row : Row) → StandsAt part pages row → IsItemOf cache (record { key = key; word = word }) row → Names
    of_row row at is =
        let small : at.at < 2 ^ 32 = omega (arith, at.below, few) in
        let is_word : word ≡ at.item * 2 ^ 56 + (2 ^ 48 + part * 2 ^ 32 + at.at) % 2 ^ 56 = is.word ∙ ap (λ (r : Row). r.link.0) at.is in
        let page_is : word % 2 ^ 56 ≡ 2 ^ 48 + part * 2 ^ 32 + at.at = omega (arith, is_word, part_fits, small) in
        let item_is : at.item ≡ word / 2 ^ 56 = omega (arith, is_word, part_fits, small) in
        let index_is : at.at ≡ word % 2 ^ 56 % 2 ^ 32 = omega (arith, page_is, part_fits, small) in
        let has : HasKey (page_at pages at.at) at.item cache key = record {
          kind = at.kind;
          bytes = at.bytes;
          live = at.live;
          cache_is = sym (ap (λ (r : Row). r.cache) at.is) ∙ is.cache_is;
          key_is = sym (ap (λ (r : Row). r.key) at.is) ∙ sym is.key;
        } in (
          page_is ∙ ap (λ n. 2 ^ 48 + part * 2 ^ 32 + n) index_is,
          subst (λ (q : ℕ × ℕ). HasKey (page_at pages q.0) q.1 cache key) {x = (at.at, at.item)} {y = (word % 2 ^ 56 % 2 ^ 32, word / 2 ^ 56)} (λ t. (index_is t, item_is t)) has,
        )

    to : Any (IsItemOf cache (record { key = key; word = word })) (rows_of part pages) → Names
    to any = meets (StandsAt part pages) (IsItemOf cache (record { key = key; word = word })) Names (rows_of part pages) (all_stand part pages) (holds_of (IsItemOf cache (record { key = key; word = word })) (rows_of part pages) any) of_row

    from : Names → Any (IsItemOf cache (record { key = key; word = word })) (rows_of part pages)
    from names =
        let index = word % 2 ^ 56 % 2 ^ 32 in
        let has = names.1 in
        any_of (IsItemOf cache (record { key = key; word = word })) (rows_of part pages) (elim (cases_lt index (page_count pages)) [
          | inl lt ↦ row_stands (IsItemOf cache (record { key = key; word = word })) part pages index (word / 2 ^ 56) has.bytes lt has.kind has.live (record { cache_is = has.cache_is; key = sym has.key_is; word = omega (arith, names.0, part_fits) })
          | inr past ↦ absurd (kind_past pages index past has.kind)
        ])
