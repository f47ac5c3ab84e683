-- The rows of a partition of which one page has a row in the place of another one.
use Rattle.std.proofs.Common.{◌≡◌, ◌≢◌, ℕ, ◌+◌, ◌*◌, ◌/◌, ◌<◌, ◌≤◌, List, [], length, refl, sym, ap, subst, ◌∙◌, inl, inr, arith}
use Rattle.std.specs.Prelude.{Option, None, Some, if◌then◌else◌, ◌==◌}
use Rattle.std.specs.List.{flat_map, range_with_len}
use Rattle.std.proofs.lemmas.Bool.{cases_eq, eq-eqb, ne_eqb}
use Rattle.pm_types.specs.Ids.{page_id, link}
use Rattle.pm_data.specs.declared.layout.TheConstants.{DATA_KIND}
use Rattle.pm_data.specs.DataPages as data_page
use Rattle.pm_data.specs.DataPages.{DataPage, row_at, with_row, IsDataPage}
use Rattle.pm_data.proofs.RowLaws.{row_at-with_row_here, row_at-with_row_other}
use Rattle.pm_meta.specs.declared.layout.TheConstants.{BUCKETS}
use Rattle.pm_meta.specs.declared.slots.MetaSlot.TheVariants.{Bucket, Reuse, Pages}
use Rattle.pm_pages.specs.declared.row.Row.{Row}
use Rattle.pm_pages.specs.Rows.{Partition, bytes_of, number_of, number_in, page_at, page_count, kind_of, rows_from, rows_on, rows_of, row_of}
use Rattle.pm_pages.specs.Chains.{next_of, before_of, reuse_next_of}
use Rattle.pm_pages.specs.Paged.{Paged}
use Rattle.pm_pages.specs.Edits.{EditsPages, HasMeta}
use Rattle.pm_pages.proofs.PageReads.{page_at-below}
use Rattle.pm_pages.proofs.RowsFrom.{rows_on-data}
use Rattle.pm_pages.specs.SpareChains.{MovesSpare}
use Rattle.pm_pages.proofs.SpareMoves.{moves_none}
use Rattle.pm_free.specs.Chained.{home_of, homes_in}
use Rattle.pm_free.specs.Placed.{HasOneMore, HasChains, HasItemAt, KeepsRoots}
use Rattle.pm_free.proofs.Changed.{below_count}
use Rattle.pm_free.proofs.RowLists.{items_more, rows_more}
use Rattle.pm_free.proofs.PlacedRows.{chains_in, chains_out, chained_same}
use Rattle.pm_free.proofs.Settled.{chained_as}
use Rattle.pm_free.proofs.Views.{data_home, data_next, data_before, no_reuse, same_page}
use Rattle.pm_part.specs.declared.spots.Spot.{Spot}
use Rattle.pm_part.specs.Changes.{WritesOver}
use Rattle.pm_part.specs.Puts.{OverwritesRow}
use Rattle.pm_part.proofs.FreedRoom.{is_live}
use Rattle.pm_part.proofs.DataSteps.{laid_kept}

-- the rows but for one page, which has these items
abbrev pub rows_with : ℕ → Partition → ℕ → List (Option (List ℕ)) → List Row
rows_with part pages at items = flat_map (λ j. if j == at then rows_from (page_id part at) 0 items else rows_on (page_id part j) (page_at pages j)) (range_with_len 0 (page_count pages))

-- one item of the page has a row more than these items
pub one_item : (part : ℕ) (a b : Partition) (at item : ℕ) (items : List (Option (List ℕ))) (row : List ℕ) → page_count b ≡ page_count a → at < page_count a → ((j : ℕ) → j ≢ at → page_at b j ≡ page_at a j) → kind_of (page_at b at) ≡ DATA_KIND → row_at items item ≡ None → row_at (data_page.rows_of (page_at b at)) item ≡ Some row → ((k : ℕ) → k ≢ item → row_at (data_page.rows_of (page_at b at)) k ≡ row_at items k)
    → HasOneMore (rows_with part a at items) (rows_of part b) (row_of (link (page_id part at) item) row)
one_item part a b at item items row count below others kind gone here same =
    let id = page_id part at in
    let f : ℕ → List Row = λ j. if j == at then rows_from id 0 items else rows_on (page_id part j) (page_at a j) in
    let g : ℕ → List Row = λ j. rows_on (page_id part j) (page_at b j) in
    let zero_is : 0 + item ≡ item = omega arith in
    let one : HasOneMore (rows_from id 0 items) (rows_from id 0 (data_page.rows_of (page_at b at))) (row_of (link id item) row) =
    subst (λ n. HasOneMore (rows_from id 0 items) (rows_from id 0 (data_page.rows_of (page_at b at))) (row_of (link id n) row)) zero_is (items_more id 0 items (data_page.rows_of (page_at b at)) item row gone here same) in
    let f_at : f at ≡ rows_from id 0 items = simp (eq-eqb at at refl) refl in
    let at_page : HasOneMore (f at) (g at) (row_of (link id item) row) = subst (λ (p : List Row × List Row). HasOneMore p.0 p.1 (row_of (link id item) row)) {x = (rows_from id 0 items, rows_from id 0 (data_page.rows_of (page_at b at)))} {y = (f at, g at)} (λ i. (sym f_at i, sym (rows_on-data id (page_at b at) kind) i)) one in
    subst (λ n. HasOneMore (rows_with part a at items) (flat_map g (range_with_len 0 n)) (row_of (link id item) row)) (sym count)
    (rows_more f g 0 (page_count a) at (row_of (link id item) row) (λ j ne. ap (rows_on (page_id part j)) (others j ne) ∙ sym (else_of j ne)) (omega arith) (omega (arith, below)) at_page)
  where
    else_of : (j : ℕ) → j ≢ at → (if j == at then rows_from (page_id part at) 0 items else rows_on (page_id part j) (page_at a j)) ≡ rows_on (page_id part j) (page_at a j)
    else_of j ne = simp (ne_eqb j at ne) refl

-- a page whose bucket, neighbours and kind stay keeps the chains
same_chains : (a b : Partition) (at : ℕ) → page_count b ≡ page_count a → ((bucket : ℕ) → number_in b (Bucket bucket) ≡ number_in a (Bucket bucket)) → ((j : ℕ) → j ≢ at → page_at b j ≡ page_at a j) → next_of (page_at b at) ≡ next_of (page_at a at) → before_of (page_at b at) ≡ before_of (page_at a at) → home_of (page_at b at) ≡ home_of (page_at a at) → HasChains a → HasChains b
same_chains a b at count heads others next before home has =
    chains_out b (chained_as b (homes_in a) (homes_in b) (each home_of home)
    (chained_same a b (homes_in a) count heads (each next_of next) (each before_of before) (chains_in a has)))
  where
    each : (f : List ℕ → ℕ) → f (page_at b at) ≡ f (page_at a at) → (j : ℕ) → f (page_at b j) ≡ f (page_at a j)
    each f here j = elim (cases_eq j at) [
      | inl e ↦ subst (λ i. f (page_at b i) ≡ f (page_at a i)) (sym e) here
      | inr ne ↦ ap f (others j ne)
    ]

-- a row was written over one that has as many bytes
module _ (T : Type 0) (a b : Paged) (spot : Spot) (row : List ℕ) (t : T) (meta : HasMeta a) (has : HasItemAt a spot.at spot.item) (edits : EditsPages T a b (λ j. j ≡ spot.at) 0) (over : WritesOver a b spot.at spot.item row) where
  lt : spot.at < page_count a.pages
  lt = below_count a spot.at meta has.is

  pub first_stays : b.pages 0 ≡ a.pages 0
  first_stays = edits.others 0 (inl t) (λ e. omega (arith, e, has.is.some))

  pub count_stays : page_count b.pages ≡ page_count a.pages
  count_stays = ap (λ o. number_of o Pages) first_stays

  page_was : page_at a.pages spot.at ≡ over.was
  page_was = page_at-below a.pages spot.at lt ∙ ap bytes_of over.before

  page_now : page_at b.pages spot.at ≡ over.now
  page_now = page_at-below b.pages spot.at (omega (arith, lt, count_stays)) ∙ ap bytes_of over.after

  same : has.is.page ≡ over.was
  same = cc (has.is.is.in_hand.page, over.before)

  pub well_made : IsDataPage over.was
  well_made = subst IsDataPage same has.is.is.well_made

  elsewhere : (j : ℕ) → j ≢ spot.at → page_at b.pages j ≡ page_at a.pages j
  elsewhere j ne = same_page a.pages b.pages j count_stays (edits.others j (inl t) ne)

  kind_was : kind_of (page_at a.pages spot.at) ≡ DATA_KIND
  kind_was = ap kind_of page_was ∙ well_made.head.kind

  kind_now : kind_of (page_at b.pages spot.at) ≡ DATA_KIND
  kind_now = ap kind_of page_now ∙ over.adds.well_made.head.kind

  -- what is the same of this page is the same of each
  each_page : (f : List ℕ → ℕ) → f (page_at b.pages spot.at) ≡ f (page_at a.pages spot.at) → (j : ℕ) → f (page_at b.pages j) ≡ f (page_at a.pages j)
  each_page f here j = elim (cases_eq j spot.at) [
    | inl e ↦ subst (λ i. f (page_at b.pages i) ≡ f (page_at a.pages i)) (sym e) here
    | inr ne ↦ ap f (elsewhere j ne)
  ]

  kinds : (j : ℕ) → kind_of (page_at b.pages j) ≡ kind_of (page_at a.pages j)
  kinds = each_page kind_of (kind_now ∙ sym kind_was)

  pub overwritten_moves : MovesSpare a.pages b.pages [] []
  overwritten_moves = moves_none a.pages b.pages (ap (λ o. number_of o Reuse) first_stays) count_stays
      (λ j nz. each_page reuse_next_of (no_reuse (page_at b.pages spot.at) (λ z. omega (arith, z, kind_now)) ∙ sym (no_reuse (page_at a.pages spot.at) (λ z. omega (arith, z, kind_was)))) j)
      (λ j nz kind. kinds j ∙ kind)

  roots : KeepsRoots a.pages b.pages
  roots slot is not_reuse not_pages not_bucket = ap (λ o. number_of o slot) first_stays

  untouched : (j : ℕ) → j ≢ 0 → kind_of (page_at a.pages j) ≢ DATA_KIND → b.pages j ≡ a.pages j
  untouched j nz kind = edits.others j (inl t) (λ e. kind (ap (λ i. kind_of (page_at a.pages i)) e ∙ kind_was))

  chains_kept : HasChains a.pages → HasChains b.pages
  chains_kept = same_chains a.pages b.pages spot.at count_stays (λ bucket. ap (λ o. number_of o (Bucket bucket)) first_stays) elsewhere
      (ap next_of page_now ∙ data_next over.now over.adds.well_made ∙ ap (λ (d : DataPage). d.next) over.adds.says ∙ sym (ap next_of page_was ∙ data_next over.was well_made))
      (ap before_of page_now ∙ data_before over.now over.adds.well_made ∙ ap (λ (d : DataPage). d.prev) over.adds.says ∙ sym (ap before_of page_was ∙ data_before over.was well_made))
      (ap home_of page_now ∙ data_home over.now over.adds.well_made ∙ (λ i. over.room i * BUCKETS / over.size i) ∙ sym (ap home_of page_was ∙ data_home over.was well_made))

  pub overwritten : OverwritesRow a.part a.pages b.pages spot row (link (page_id a.part spot.at) spot.item)
  overwritten =
      let item = spot.item in
      let live : row_at (data_page.rows_of over.was) item ≡ Some has.row = ap (λ (p : List ℕ). row_at (data_page.rows_of p) item) (sym same) ∙ has.live in
      let le : item ≤ length (data_page.rows_of over.was) = omega (arith, is_live (data_page.rows_of over.was) item has.row live) in
      let items = with_row (data_page.rows_of over.was) item None in
      let gone : row_at items item ≡ None = row_at-with_row_here (data_page.rows_of over.was) item None le in
      let rest : (k : ℕ) → k ≢ item → row_at items k ≡ row_at (data_page.rows_of over.was) k = λ k ne. row_at-with_row_other (data_page.rows_of over.was) item k None le ne in
      let rows_a : data_page.rows_of (page_at a.pages spot.at) ≡ data_page.rows_of over.was = ap data_page.rows_of page_was in
      let rows_b : data_page.rows_of (page_at b.pages spot.at) ≡ data_page.rows_of over.now = ap data_page.rows_of page_now in
      record {
        was = row_of (link (page_id a.part spot.at) item) has.row;
        others = rows_with a.part a.pages spot.at items;
        named = refl;
        before = one_item a.part a.pages a.pages spot.at item items has.row refl lt (λ j ne. refl) kind_was gone (ap (λ (l : List (Option (List ℕ))). row_at l item) rows_a ∙ live) (λ k ne. ap (λ (l : List (Option (List ℕ))). row_at l k) rows_a ∙ sym (rest k ne));
        now = one_item a.part a.pages b.pages spot.at item items row count_stays lt elsewhere kind_now gone (ap (λ (l : List (Option (List ℕ))). row_at l item) rows_b ∙ over.adds.here)
            (λ k ne. ap (λ (l : List (Option (List ℕ))). row_at l k) rows_b ∙ over.adds.others k ne ∙ sym (rest k ne));
        chains = chains_kept;
        laid = λ items laid. laid_kept a.pages b.pages items laid overwritten_moves roots chains_kept kinds untouched;
        spare = overwritten_moves.sound;
        count = omega (arith, count_stays);
        stays = λ j nz kind used. untouched j nz kind;
        numbers = roots;
      }
