-- A row that was put on a page or taken from one, and what became of the partition.
use Rattle.std.proofs.Common.{◌≡◌, ◌≢◌, ℕ, ◌+◌, ◌<◌, ◌≤◌, List, [], ◌∷◌, ◌==◌, true, length, refl, sym, ap, subst, ◌∙◌, inl, inr, arith}
use Rattle.std.specs.Prelude.{Option, None, Some, is_none, not}
use Rattle.std.specs.List.{flat_map, range_with_len}
use Rattle.std.proofs.lemmas.Bool.{cases_eq, cases_lt, eq-eqb, ne_eqb, false≢true}
use Rattle.std.proofs.lemmas.List.{get_or_past, append-nil}
use Rattle.std.proofs.lemmas.List.Sums.{passes_at_first, prefix_len-le-length}
use Rattle.pm_types.specs.Ids.{page_id, link}
use Rattle.pm_types.specs.declared.page_id.PageId.{PageId}
use Rattle.pm_data.specs.declared.layout.TheConstants.{DATA_KIND}
use Rattle.pm_data.specs.DataPages.{DataPage, data_of, rows_of, row_at, with_row, without_row, free_item}
use Rattle.pm_data.proofs.RowLaws.{row_at-with_row_here, row_at-with_row_other, row_at-without_row_here, row_at-without_row_other}
use Rattle.pm_meta.specs.declared.layout.TheConstants.{BUCKETS, REUSE_KIND}
use Rattle.pm_meta.specs.declared.slots.MetaSlot.{MetaSlot}
use Rattle.pm_meta.specs.declared.slots.MetaSlot.TheVariants.{Bucket, Reuse, Pages}
use Rattle.pm_pages.specs.declared.row.Row.{Row}
use Rattle.pm_pages.specs.Rows as partition
use Rattle.pm_pages.specs.Rows.{Partition, page_at, page_count, number_in, kind_of, rows_from, rows_on, row_of}
use Rattle.pm_pages.specs.Chains.{times, walk, IsExactly, NamesBefore, next_of, before_of, reuse_next_of, is_in_bucket, bucket_chain}
use Rattle.pm_pages.proofs.RowsFrom.{rows_on-data}
use Rattle.pm_pages.proofs.Walks.{same_test}
use Rattle.pm_free.specs.declared.edits.Edit.{Edit}
use Rattle.pm_free.specs.declared.edits.Edit.TheVariants.{Insert, Remove}
use Rattle.pm_free.specs.DataEdits.{edited}
use Rattle.pm_free.specs.Buckets.{HasEnough}
use Rattle.pm_free.specs.Chained.{home_of, homes_in, with_home, AreChained, SettlesPage}
use Rattle.pm_free.specs.Changes.{EditsPartition}
use Rattle.pm_pages.specs.SpareChains.{MovesSpare}
use Rattle.pm_free.specs.Placed.{HasOneMore, HasChains, HasNoneBelow, PlacesRow, TakesRow, DropsPage}
use Rattle.pm_pages.proofs.ChainWalks.{times_here, times_other}
use Rattle.pm_free.proofs.RowLists.{items_more, rows_more}
use Rattle.pm_free.proofs.Views.{views_edit, was_page, now_page, was_next, was_before}
use Rattle.pm_free.proofs.Settled.{chained_as, home_here, home_other}
use Rattle.pm_pages.proofs.SpareMoves.{moves_none, moves_then}

-- a page is in a bucket if the bucket is its home
in_home : (bucket : ℕ) (page : List ℕ) → bucket < BUCKETS → is_in_bucket bucket page ≡ (home_of page == bucket)
in_home bucket page few = elim (cases_eq (kind_of page) DATA_KIND) [
  | inl e ↦ simp (eq-eqb (kind_of page) DATA_KIND e) refl
  | inr ne ↦ simp (ne_eqb (kind_of page) DATA_KIND ne) (sym (ne_eqb BUCKETS bucket (λ e. omega (arith, e, few))))
]

pub chains_in : (pages : Partition) → HasChains pages → AreChained pages (homes_in pages)
chains_in pages has = record {
  each = λ bucket few. record {
    exact = same_test (page_count pages) (page_count pages) (λ i. is_in_bucket bucket (page_at pages i)) (λ i. homes_in pages i == bucket) (bucket_chain pages bucket) refl (λ i lt. in_home bucket (page_at pages i) few) (has bucket few).exact;
    before = (has bucket few).before;
  };
}

pub chains_out : (pages : Partition) → AreChained pages (homes_in pages) → HasChains pages
chains_out pages chained bucket few = record {
  exact = same_test (page_count pages) (page_count pages) (λ i. homes_in pages i == bucket) (λ i. is_in_bucket bucket (page_at pages i)) (bucket_chain pages bucket) refl (λ i lt. sym (in_home bucket (page_at pages i) few)) (chained.each bucket few).exact;
  before = (chained.each bucket few).before;
}

-- where neighbours, heads and the page count are the same, so are the chains
pub chained_same : (x y : Partition) (home : ℕ → ℕ) → page_count y ≡ page_count x → ((bucket : ℕ) → number_in y (Bucket bucket) ≡ number_in x (Bucket bucket)) → ((j : ℕ) → next_of (page_at y j) ≡ next_of (page_at x j)) → ((j : ℕ) → before_of (page_at y j) ≡ before_of (page_at x j)) → AreChained x home → AreChained y home
chained_same x y home count heads nexts befores chained = record {
  each = λ bucket few.
      (let chain : bucket_chain y bucket ≡ bucket_chain x bucket = λ k. walk (λ i. nexts i k) (count k) (heads bucket k) in
      let was = chained.each bucket few in
      record {
        exact = subst (λ (p : ℕ × List ℕ). IsExactly p.0 (λ i. home i == bucket) p.1) {x = (page_count x, bucket_chain x bucket)} {y = (page_count y, bucket_chain y bucket)} (λ k. (sym count k, sym chain k)) was.exact;
        before = subst (λ (p : (ℕ → ℕ) × List ℕ). NamesBefore p.0 0 p.1) {x = ((λ i. before_of (page_at x i)), bucket_chain x bucket)} {y = ((λ i. before_of (page_at y i)), bucket_chain y bucket)} (λ k. ((λ i. sym (befores i) k), sym chain k)) was.before;
      });
}

-- A data page's rows changed, and nothing else.
pub record ViewsRows (x y : Partition) (at : ℕ) : Type 0 where
  pub some : at ≢ 0
  pub below : at < page_count x
  pub numbers : (slot : MetaSlot) → number_in y slot ≡ number_in x slot
  pub nexts : (j : ℕ) → next_of (page_at y j) ≡ next_of (page_at x j)
  pub befores : (j : ℕ) → before_of (page_at y j) ≡ before_of (page_at x j)
  pub others : (j : ℕ) → j ≢ at → page_at y j ≡ page_at x j
  pub raw : (j : ℕ) → j ≢ at → y j ≡ x j
  pub was : kind_of (page_at x at) ≡ DATA_KIND
  pub now : kind_of (page_at y at) ≡ DATA_KIND

pub views_rows : (at : ℕ) (row : List ℕ) (edit : Edit) (x y : Partition) (e : EditsPartition at row edit x y) → (edited (data_of e.was) row edit).next ≡ (data_of e.was).next → (edited (data_of e.was) row edit).prev ≡ (data_of e.was).prev → ViewsRows x y at
views_rows at row edit x y e next prev =
    let v = views_edit at row edit x y e in
    record {
      some = e.some;
      below = e.below;
      numbers = v.numbers;
      nexts = λ j. elim (cases_eq j at) [
        | inl z ↦ subst (λ n. next_of (page_at y n) ≡ next_of (page_at x n)) (sym z) (v.after ∙ next ∙ sym (was_next at row edit x y e))
        | inr ne ↦ ap next_of (v.others j ne)
      ];
      befores = λ j. elim (cases_eq j at) [
        | inl z ↦ subst (λ n. before_of (page_at y n) ≡ before_of (page_at x n)) (sym z) (v.before ∙ prev ∙ sym (was_before at row edit x y e))
        | inr ne ↦ ap before_of (v.others j ne)
      ];
      others = v.others;
      raw = e.others;
      was = ap kind_of (was_page at row edit x y e) ∙ e.well_made.head.kind;
      now = ap kind_of (now_page at row edit x y e) ∙ e.edits.well_made.head.kind;
    }

no_next : (page : List ℕ) → kind_of page ≡ DATA_KIND → reuse_next_of page ≡ 0
no_next page is = simp (ne_eqb (kind_of page) REUSE_KIND (λ e. omega (arith, e, is))) refl

-- the lowest item without a row has none
pub free_none : (rows : List (Option (List ℕ))) → row_at rows (free_item rows) ≡ None
free_none rows = elim (cases_lt (free_item rows) (length rows)) [
  | inl lt ↦ none_is (row_at rows (free_item rows)) (passes_at_first is_none rows None lt)
  | inr le ↦ get_or_past rows (free_item rows) None le
]
  where
    none_is : (o : Option (List ℕ)) → is_none o ≡ true → o ≡ None
    none_is None h = refl
    none_is (Some row) h = absurd (false≢true h)

position-le : (rows : List (Option (List ℕ))) → free_item rows ≤ length rows
position-le rows = prefix_len-le-length (λ x. not (is_none x)) rows

-- an item with a row is among the items
live_le : (rows : List (Option (List ℕ))) (item : ℕ) (row : List ℕ) → row_at rows item ≡ Some row → item ≤ length rows
live_le rows item row live = elim (cases_lt (length rows) item) [
  | inl lt ↦ (let none = sym live ∙ get_or_past rows item None (omega (arith, lt)) in absurd (cc none))
  | inr le ↦ le
]

-- a page of a partition has one row more
pub one_more : (part at item : ℕ) (row : List ℕ) (x z : Partition) (xs ys : List (Option (List ℕ))) → page_count z ≡ page_count x → at < page_count x → ((j : ℕ) → j ≢ at → rows_on (page_id part j) (page_at z j) ≡ rows_on (page_id part j) (page_at x j))
    → rows_on (page_id part at) (page_at x at) ≡ rows_from (page_id part at) 0 xs → rows_on (page_id part at) (page_at z at) ≡ rows_from (page_id part at) 0 ys
    → row_at xs item ≡ None → row_at ys item ≡ Some row → ((k : ℕ) → k ≢ item → row_at ys k ≡ row_at xs k)
    → HasOneMore (partition.rows_of part x) (partition.rows_of part z) (row_of (link (page_id part at) item) row)
one_more part at item row x z xs ys count below same was now gone here others =
    let f : ℕ → List Row = λ i. rows_on (page_id part i) (page_at x i) in
    let g : ℕ → List Row = λ i. rows_on (page_id part i) (page_at z i) in
    let r = row_of (link (page_id part at) item) row in
    let number : 0 + item ≡ item = omega arith in
    let items = subst (λ n. HasOneMore (rows_from (page_id part at) 0 xs) (rows_from (page_id part at) 0 ys) (row_of (link (page_id part at) n) row)) number (items_more (page_id part at) 0 xs ys item row gone here others) in
    let page : HasOneMore (f at) (g at) r = subst (λ (p : List Row × List Row). HasOneMore p.0 p.1 r) {x = (rows_from (page_id part at) 0 xs, rows_from (page_id part at) 0 ys)} {y = (f at, g at)} (λ k. (sym was k, sym now k)) items in
    subst (λ n. HasOneMore (flat_map f (range_with_len 0 (page_count x))) (flat_map g (range_with_len 0 n)) r) (sym count)
    (rows_more f g 0 (page_count x) at r same (omega arith) (omega (arith, below)) page)

-- The rows of page `at` changed, and then it settled.
module _ (x y z : Partition) (at bucket : ℕ) (v : ViewsRows x y at) (s : SettlesPage y z at bucket) (home_is : homes_in x at ≡ bucket) where
  pub kept_count : page_count z ≡ page_count x
  kept_count = s.keeps.numbers Pages tt (λ b e. cc e) ∙ v.numbers Pages

  pub kept_chains : HasChains x → HasChains z
  kept_chains has =
      let chained = chained_same x y (homes_in x) (v.numbers Pages) (λ b. v.numbers (Bucket b)) v.nexts v.befores (chains_in x has) in
      chains_out z (chained_as z (with_home (homes_in x) at (homes_in z at)) (homes_in z) (λ j. elim (cases_eq j at) [
        | inl e ↦ ap (homes_in z) e ∙ sym (home_here (homes_in x) at (homes_in z at)) ∙ sym (ap (with_home (homes_in x) at (homes_in z at)) e)
        | inr ne ↦ (s.keeps.pages j).home ∙ ap home_of (v.others j ne) ∙ sym (home_other (homes_in x) at (homes_in z at) j ne)
      ]) (s.chains (homes_in x) chained home_is))

  pub kept_kinds : (j : ℕ) → kind_of (page_at z j) ≡ kind_of (page_at x j)
  kept_kinds j = (s.keeps.pages j).kind ∙ elim (cases_eq j at) [
    | inl e ↦ subst (λ n. kind_of (page_at y n) ≡ kind_of (page_at x n)) (sym e) (v.now ∙ sym v.was)
    | inr ne ↦ ap kind_of (v.others j ne)
  ]

  pub kept_moves : MovesSpare x z [] []
  kept_moves = moves_none x z (s.keeps.numbers Reuse tt (λ b e. cc e) ∙ v.numbers Reuse) kept_count
      (λ j nz. (s.keeps.pages j).reuse ∙ elim (cases_eq j at) [
        | inl e ↦ subst (λ n. reuse_next_of (page_at y n) ≡ reuse_next_of (page_at x n)) (sym e) (no_next (page_at y at) v.now ∙ sym (no_next (page_at x at) v.was))
        | inr ne ↦ ap reuse_next_of (v.others j ne)
      ])
      (λ j nz kind. kept_kinds j ∙ kind)

  pub kept_others : (j : ℕ) → j ≢ 0 → kind_of (page_at x j) ≢ DATA_KIND → z j ≡ x j
  kept_others j nz kind =
      let ne : j ≢ at = λ e. kind (ap (λ n. kind_of (page_at x n)) e ∙ v.was) in
      s.keeps.others j nz (λ k. kind (sym (ap kind_of (v.others j ne)) ∙ k)) ∙ v.raw j ne

-- the page of a row that is put in
pub placed_on : (size part at bucket item : ℕ) (row : List ℕ) (x y z : Partition) (e : EditsPartition at row Insert x y) → item ≡ free_item (rows_of e.was) → SettlesPage y z at bucket → homes_in x at ≡ bucket → bucket < BUCKETS → HasEnough size (length row) bucket → number_in x (Bucket bucket) ≡ at → HasNoneBelow size x (length row) bucket → PlacesRow size part x z row (link (page_id part at) item)
placed_on size part at bucket item row x y z e item_is s home_is few enough head lowest =
    let v = views_rows at row Insert x y e refl refl in
    let count = kept_count x y z at bucket v s home_is in
    let now : page_at y at ≡ e.now = now_page at row Insert x y e in
    let rows_now : rows_of e.now ≡ with_row (rows_of e.was) (free_item (rows_of e.was)) (Some row) = ap (λ (d : DataPage). d.rows) e.edits.says in
    let le : free_item (rows_of e.was) ≤ length (rows_of e.was) = free_le (rows_of e.was) in
    let here : row_at (rows_of e.now) item ≡ Some row = (λ k. row_at (rows_now k) (item_is k)) ∙ row_at-with_row_here (rows_of e.was) (free_item (rows_of e.was)) (Some row) le in
    let gone : row_at (rows_of e.was) item ≡ None = ap (row_at (rows_of e.was)) item_is ∙ free_none (rows_of e.was) in
    let others : (k : ℕ) → k ≢ item → row_at (rows_of e.now) k ≡ row_at (rows_of e.was) k = λ k ne. ap (λ (t : List (Option (List ℕ))). row_at t k) rows_now ∙ row_at-with_row_other (rows_of e.was) (free_item (rows_of e.was)) k (Some row) le (λ z. ne (z ∙ sym item_is)) in
    let items : rows_of (page_at z at) ≡ rows_of e.now = (s.keeps.pages at).items v.now ∙ ap rows_of now in
    record {
      at = at;
      item = item;
      is = refl;
      some = omega (arith, pos at e.some);
      below = omega (arith, e.below, count);
      kind = (s.keeps.pages at).kind ∙ v.now;
      here = ap (λ (t : List (Option (List ℕ))). row_at t item) items ∙ here;
      rows = one_more part at item row x z (rows_of e.was) (rows_of e.now) count e.below
          (λ j ne. (s.keeps.pages j).rows (page_id part j) ∙ ap (rows_on (page_id part j)) (v.others j ne))
          (ap (rows_on (page_id part at)) (was_page at row Insert x y e) ∙ rows_on-data (page_id part at) e.was e.well_made.head.kind)
          ((s.keeps.pages at).rows (page_id part at) ∙ ap (rows_on (page_id part at)) now ∙ rows_on-data (page_id part at) e.now e.edits.well_made.head.kind)
          gone here others;
      chains = kept_chains x y z at bucket v s home_is;
      made = [];
      few = omega arith;
      only = λ j there. absurd (omega (arith, there));
      moves = kept_moves x y z at bucket v s home_is;
      kinds = λ j none. kept_kinds x y z at bucket v s home_is j;
      others = λ j nz kind none. kept_others x y z at bucket v s home_is j nz kind;
      numbers = λ slot is not_reuse not_pages other. s.keeps.numbers slot is other ∙ v.numbers slot;
      lowest = λ b b_few b_enough b_lowest b_some. elim (cases_lt b bucket) [
        | inl lt ↦ absurd (b_some (lowest b lt b_enough))
        | inr le ↦ elim (cases_eq b bucket) [
          | inl same ↦ sym head ∙ ap (λ n. number_in x (Bucket n)) (sym same)
          | inr ne ↦ absurd (e.some (sym head ∙ b_lowest bucket (omega (arith, le, ne)) enough))
        ]
      ];
      none_fits = λ j there. absurd (omega (arith, there));
    }
  where
    pos : (n : ℕ) → n ≢ 0 → 1 ≤ n
    pos n ne = omega (arith, ne)

    free_le : (rows : List (Option (List ℕ))) → free_item rows ≤ length rows
    free_le rows = position-le rows

-- the page of a row that is taken out, where it has other rows
pub taken_kept : (part at bucket item : ℕ) (row : List ℕ) (x y z : Partition) (e : EditsPartition at [] (Remove item) x y) → row_at (rows_of e.was) item ≡ Some row → rows_of e.now ≢ [] → SettlesPage y z at bucket → homes_in x at ≡ bucket → TakesRow part x z (link (page_id part at) item)
taken_kept part at bucket item row x y z e live left s home_is =
    let v = views_rows at [] (Remove item) x y e refl refl in
    let count = kept_count x y z at bucket v s home_is in
    let now : page_at y at ≡ e.now = now_page at [] (Remove item) x y e in
    let rows_now : rows_of e.now ≡ without_row (rows_of e.was) item = ap (λ (d : DataPage). d.rows) e.edits.says in
    let le : item ≤ length (rows_of e.was) = live_le (rows_of e.was) item row live in
    let gone : row_at (rows_of e.now) item ≡ None = ap (λ (t : List (Option (List ℕ))). row_at t item) rows_now ∙ row_at-without_row_here (rows_of e.was) item le in
    let others : (k : ℕ) → k ≢ item → row_at (rows_of e.was) k ≡ row_at (rows_of e.now) k = λ k ne. sym (ap (λ (t : List (Option (List ℕ))). row_at t k) rows_now ∙ row_at-without_row_other (rows_of e.was) item k le ne) in
    record {
      at = at;
      row = row;
      rows = one_more part at item row z x (rows_of e.now) (rows_of e.was) (sym count) (omega (arith, e.below, count))
          (λ j ne. sym ((s.keeps.pages j).rows (page_id part j) ∙ ap (rows_on (page_id part j)) (v.others j ne)))
          ((s.keeps.pages at).rows (page_id part at) ∙ ap (rows_on (page_id part at)) now ∙ rows_on-data (page_id part at) e.now e.edits.well_made.head.kind)
          (ap (rows_on (page_id part at)) (was_page at [] (Remove item) x y e) ∙ rows_on-data (page_id part at) e.was e.well_made.head.kind)
          gone live others;
      chains = kept_chains x y z at bucket v s home_is;
      given = [];
      left = λ away none. left (sym ((s.keeps.pages at).items v.now ∙ ap rows_of now) ∙ none);
      only = λ j there. absurd (omega (arith, there));
      moves = kept_moves x y z at bucket v s home_is;
      count = count;
      kinds = λ j none. kept_kinds x y z at bucket v s home_is j;
      others = λ j nz kind. kept_others x y z at bucket v s home_is j nz kind;
      numbers = λ slot is not_reuse not_pages other. s.keeps.numbers slot is other ∙ v.numbers slot;
    }

-- what only page `at` is
pub only_one : (j at : ℕ) → 1 ≤ times j (at ∷ []) → j ≡ at
only_one j at there = elim (cases_eq at j) [ inl e ↦ sym e | inr ne ↦ absurd (omega (arith, there, times_other j at [] ne)) ]

pub other_than : (j at : ℕ) → times j (at ∷ []) ≡ 0 → j ≢ at
other_than j at none e = (let here : times j (at ∷ []) ≡ 1 = ap (λ n. times j (n ∷ [])) (sym e) ∙ times_here j [] in omega (arith, none, here))

pub reuse_rows : (id : PageId) (page : List ℕ) → kind_of page ≡ REUSE_KIND → rows_on id page ≡ []
reuse_rows id page is = simp (ne_eqb (kind_of page) DATA_KIND (λ e. omega (arith, e, is))) refl

reuse_home : (page : List ℕ) → kind_of page ≡ REUSE_KIND → home_of page ≡ BUCKETS
reuse_home page is = simp (ne_eqb (kind_of page) DATA_KIND (λ e. omega (arith, e, is))) refl

rows_move : (x y : Partition) (at : ℕ) → ViewsRows x y at → MovesSpare x y [] []
rows_move x y at v = moves_none x y (v.numbers Reuse) (v.numbers Pages)
    (λ j nz. elim (cases_eq j at) [
      | inl e ↦ subst (λ n. reuse_next_of (page_at y n) ≡ reuse_next_of (page_at x n)) (sym e) (no_next (page_at y at) v.now ∙ sym (no_next (page_at x at) v.was))
      | inr ne ↦ ap reuse_next_of (v.others j ne)
    ])
    (λ j nz kind. elim (cases_eq j at) [
      | inl e ↦ absurd (omega (arith, v.was, sym (ap (λ n. kind_of (page_at x n)) e) ∙ kind))
      | inr ne ↦ ap kind_of (v.others j ne) ∙ kind
    ])

pub moves_on_then : (x y z : Partition) (given : List ℕ) → MovesSpare x y [] [] → MovesSpare y z [] given → MovesSpare x z [] given
moves_on_then x y z given a b = subst (λ (g : List ℕ). MovesSpare x z [] g) (append-nil given) (moves_then x y z [] [] [] given a b)

-- the page of a row that is taken out, where that was its last
pub taken_dropped : (part at bucket item : ℕ) (row : List ℕ) (x y z : Partition) (e : EditsPartition at [] (Remove item) x y) → row_at (rows_of e.was) item ≡ Some row → rows_of e.now ≡ [] → DropsPage y z at bucket → homes_in x at ≡ bucket → TakesRow part x z (link (page_id part at) item)
taken_dropped part at bucket item row x y z e live empty d home_is =
    let v = views_rows at [] (Remove item) x y e refl refl in
    let count : page_count z ≡ page_count x = d.count ∙ v.numbers Pages in
    let rows_now : rows_of e.now ≡ without_row (rows_of e.was) item = ap (λ (d : DataPage). d.rows) e.edits.says in
    let le : item ≤ length (rows_of e.was) = live_le (rows_of e.was) item row live in
    let gone : row_at (rows_of e.now) item ≡ None = ap (λ (t : List (Option (List ℕ))). row_at t item) rows_now ∙ row_at-without_row_here (rows_of e.was) item le in
    let others : (k : ℕ) → k ≢ item → row_at (rows_of e.was) k ≡ row_at (rows_of e.now) k = λ k ne. sym (ap (λ (t : List (Option (List ℕ))). row_at t k) rows_now ∙ row_at-without_row_other (rows_of e.was) item k le ne) in
    let away : (j : ℕ) → kind_of (page_at x j) ≢ DATA_KIND → j ≢ at = λ j kind e. kind (ap (λ n. kind_of (page_at x n)) e ∙ v.was) in
    record {
      at = at;
      row = row;
      rows = one_more part at item row z x (rows_of e.now) (rows_of e.was) (sym count) (omega (arith, e.below, count))
          (λ j ne. sym ((d.pages j ne).rows (page_id part j) ∙ ap (rows_on (page_id part j)) (v.others j ne)))
          (reuse_rows (page_id part at) (page_at z at) d.kind ∙ sym (ap (rows_from (page_id part at) 0) empty))
          (ap (rows_on (page_id part at)) (was_page at [] (Remove item) x y e) ∙ rows_on-data (page_id part at) e.was e.well_made.head.kind)
          gone live others;
      chains = λ has.
          (let chained = chained_same x y (homes_in x) (v.numbers Pages) (λ b. v.numbers (Bucket b)) v.nexts v.befores (chains_in x has) in
          chains_out z (chained_as z (with_home (homes_in x) at BUCKETS) (homes_in z) (λ j. elim (cases_eq j at) [
            | inl e ↦ ap (homes_in z) e ∙ reuse_home (page_at z at) d.kind ∙ sym (home_here (homes_in x) at BUCKETS) ∙ sym (ap (with_home (homes_in x) at BUCKETS) e)
            | inr ne ↦ (d.pages j ne).home ∙ ap home_of (v.others j ne) ∙ sym (home_other (homes_in x) at BUCKETS j ne)
          ]) (d.chains (homes_in x) chained home_is)));
      given = at ∷ [];
      left = λ away. absurd (other_than at at away refl);
      only = λ j there. (let same = only_one j at there in (same, ap (λ n. kind_of (page_at x n)) same ∙ v.was, ap (λ n. kind_of (page_at z n)) same ∙ d.kind));
      moves = moves_on_then x y z (at ∷ []) (rows_move x y at v) d.moves;
      count = count;
      kinds = λ j none. (let ne = other_than j at none in (d.pages j ne).kind ∙ ap kind_of (v.others j ne));
      others = λ j nz kind. (let ne = away j kind in d.others j nz ne (λ k. kind (sym (ap kind_of (v.others j ne)) ∙ k)) ∙ v.raw j ne);
      numbers = λ slot is not_reuse not_pages other. d.numbers slot is not_reuse not_pages other ∙ v.numbers slot;
    }
