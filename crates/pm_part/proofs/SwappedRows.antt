-- A row that was put on the page of another one, which was taken out, or placed anew.
use Rattle.std.proofs.Common.{◌≡◌, ◌≢◌, ℕ, ◌≤◌, List, [], length, refl, sym, ap, subst, ◌∙◌, inl, inr, arith}
use Rattle.std.specs.Prelude.{Option, None, Some, is_none, not}
use Rattle.std.proofs.lemmas.Bool.{cases_lt}
use Rattle.std.proofs.lemmas.List.Sums.{prefix_len-le-length}
use Rattle.pm_types.specs.declared.page_id.Link.{Link}
use Rattle.pm_types.specs.Ids.{page_id, link}
use Rattle.pm_data.specs.declared.layout.TheConstants.{DATA_KIND}
use Rattle.pm_data.specs.DataPages as data_page
use Rattle.pm_data.specs.DataPages.{DataPage, row_at, with_row, without_row, free_item}
use Rattle.pm_data.proofs.RowLaws.{row_at-with_row_here, row_at-with_row_other, row_at-without_row_here, row_at-without_row_other}
use Rattle.pm_meta.specs.declared.slots.MetaSlot.TheVariants.{Pages}
use Rattle.pm_pages.specs.declared.row.Row.{Row}
use Rattle.pm_pages.specs.Rows.{Partition, page_at, page_count, kind_of, rows_of, row_of}
use Rattle.pm_pages.specs.Chains.{times}
use Rattle.pm_pages.specs.SpareChains.{MovesSpare}
use Rattle.pm_free.specs.declared.edits.Edit.TheVariants.{Insert, Remove}
use Rattle.pm_free.specs.Chained.{home_of, homes_in, SettlesPage}
use Rattle.pm_free.specs.Changes.{EditsPartition}
use Rattle.pm_free.specs.Placed.{HasOneMore, PlacesRow, TakesRow, IsUnused, KeepsRoots}
use Rattle.pm_free.proofs.PlacedRows.{ViewsRows, views_rows, kept_chains, kept_count, kept_kinds, kept_moves, kept_others, free_none}
use Rattle.pm_free.proofs.Views.{was_page, now_page}
use Rattle.pm_part.specs.declared.spots.Spot.{Spot}
use Rattle.pm_part.specs.Puts.{OverwritesRow}
use Rattle.pm_part.proofs.FreedRoom.{is_live}
use Rattle.pm_part.proofs.DataSteps.{laid_place, laid_take, laid_kept}
use Rattle.pm_part.proofs.OverwrittenRows.{rows_with, one_item}
use Rattle.pm_part.proofs.KeptRows.{rows_alike}

free_few : (rows : List (Option (List ℕ))) → free_item rows ≤ length rows
free_few rows = prefix_len-le-length (λ (x : Option (List ℕ)). not (is_none x)) rows

-- two changes of a page's rows
views_then : (x y z : Partition) (at : ℕ) → ViewsRows x y at → ViewsRows y z at → ViewsRows x z at
views_then x y z at v w = record {
  some = v.some;
  below = v.below;
  numbers = λ slot. w.numbers slot ∙ v.numbers slot;
  nexts = λ j. w.nexts j ∙ v.nexts j;
  befores = λ j. w.befores j ∙ v.befores j;
  others = λ j ne. w.others j ne ∙ v.others j ne;
  raw = λ j ne. w.raw j ne ∙ v.raw j ne;
  was = v.was;
  now = w.now;
}

-- no page was taken or given back, where a row was taken out of a page and another one put in, and the page settled in the chain for its room
pub swapped_moves : (b d e f : Partition) (spot : Spot) (bucket : ℕ) (row page : List ℕ) → EditsPartition spot.at [] (Remove spot.item) b d → EditsPartition spot.at row Insert d e → SettlesPage e f spot.at bucket → b spot.at ≡ Some page → bucket ≡ home_of page → MovesSpare b f [] []
swapped_moves b d e f spot bucket row page out put s here bucket_is =
    let at = spot.at in
    let v = views_then b d e at (views_rows at [] (Remove spot.item) b d out refl refl) (views_rows at row Insert d e put refl refl) in
    let was : out.was ≡ page = cc (out.before, here) in
    kept_moves b e f at bucket v s (ap home_of (was_page at [] (Remove spot.item) b d out ∙ was) ∙ sym bucket_is)

-- a row was taken out of a page, and another one put in; then the page was settled in the chain for its room
pub swapped_rows : (part : ℕ) (b d e f : Partition) (spot : Spot) (n bucket : ℕ) (row : List ℕ) (old page : List ℕ) → (out : EditsPartition spot.at [] (Remove spot.item) b d) → (put : EditsPartition spot.at row Insert d e) → SettlesPage e f spot.at bucket → b spot.at ≡ Some page → bucket ≡ home_of page → row_at (data_page.rows_of page) spot.item ≡ Some old → n ≡ free_item (data_page.rows_of put.was)
    → OverwritesRow part b f spot row (link (page_id part spot.at) n)
swapped_rows part b d e f spot n bucket row old page out put s here bucket_is live n_is =
    let at = spot.at in
    let item = spot.item in
    let v1 = views_rows at [] (Remove item) b d out refl refl in
    let v2 = views_rows at row Insert d e put refl refl in
    let v = views_then b d e at v1 v2 in
    let was : out.was ≡ page = cc (out.before, here) in
    let mid : put.was ≡ out.now = cc (out.after, put.before) in
    let page_b : page_at b at ≡ page = was_page at [] (Remove item) b d out ∙ was in
    let page_e : page_at e at ≡ put.now = now_page at row Insert d e put in
    let home_is : homes_in b at ≡ bucket = ap home_of page_b ∙ sym bucket_is in
    let olds = data_page.rows_of page in
    let lt = is_live olds item old live in
    let items = without_row olds item in
    let mids : data_page.rows_of put.was ≡ items = ap data_page.rows_of mid ∙ ap (λ (p : DataPage). p.rows) out.edits.says ∙ ap (λ (p : List ℕ). without_row (data_page.rows_of p) item) was in
    let news : data_page.rows_of put.now ≡ with_row items (free_item items) (Some row) = ap (λ (p : DataPage). p.rows) put.edits.says ∙ ap (λ (l : List (Option (List ℕ))). with_row l (free_item l) (Some row)) mids in
    let n_free : n ≡ free_item items = n_is ∙ ap free_item mids in
    let free_le : free_item items ≤ length items = free_few items in
    let gone : row_at items item ≡ None = row_at-without_row_here olds item (omega (arith, lt)) in
    let count : page_count f ≡ page_count b = kept_count b e f at bucket v s home_is in
    let roots : KeepsRoots b f = λ slot is not_reuse not_pages not_bucket. s.keeps.numbers slot is not_bucket ∙ v.numbers slot in
    let rows_f : rows_of part f ≡ rows_of part e = rows_alike part e f (omega (arith, s.keeps.numbers Pages tt (λ k z. cc z))) (λ j. (s.keeps.pages j).rows (page_id part j)) in
    record {
      was = row_of (link (page_id part at) item) old;
      others = rows_with part b at items;
      named = refl;
      before = one_item part b b at item items old refl v.below (λ j ne. refl) v.was gone (ap (λ (p : List ℕ). row_at (data_page.rows_of p) item) page_b ∙ live)
          (λ k ne. ap (λ (p : List ℕ). row_at (data_page.rows_of p) k) page_b ∙ sym (row_at-without_row_other olds item k (omega (arith, lt)) ne));
      now = subst (λ (l : List Row). HasOneMore (rows_with part b at items) l (row_of (link (page_id part at) n) row)) (sym rows_f)
          (one_item part b e at n items row (v.numbers Pages) v.below v.others v.now (ap (row_at items) n_free ∙ free_none items)
          (ap (λ (p : List ℕ). row_at (data_page.rows_of p) n) page_e ∙ (λ k. row_at (news k) (n_free k)) ∙ row_at-with_row_here items (free_item items) (Some row) free_le)
          (λ k ne. ap (λ (p : List ℕ). row_at (data_page.rows_of p) k) page_e ∙ ap (λ (l : List (Option (List ℕ))). row_at l k) news ∙ row_at-with_row_other items (free_item items) k (Some row) free_le (λ z. ne (z ∙ sym n_free))));
      chains = kept_chains b e f at bucket v s home_is;
      laid = λ items laid. laid_kept b f items laid (kept_moves b e f at bucket v s home_is) roots (kept_chains b e f at bucket v s home_is) (kept_kinds b e f at bucket v s home_is) (kept_others b e f at bucket v s home_is);
      spare = (kept_moves b e f at bucket v s home_is).sound;
      count = omega (arith, count);
      stays = λ j nz kind used. kept_others b e f at bucket v s home_is j nz kind;
      numbers = roots;
    }

-- a row was taken out, and another one placed
pub moved_rows : (page_size part : ℕ) (b d e : Partition) (spot : Spot) (row : List ℕ) (old new : Link) → old ≡ link (page_id part spot.at) spot.item → TakesRow part b d old → PlacesRow page_size part d e row new → OverwritesRow part b e spot row new
moved_rows page_size part b d e spot row old new old_is takes places = record {
  was = row_of old takes.row;
  others = rows_of part d;
  named = old_is;
  before = takes.rows;
  now = places.rows;
  chains = λ has. places.chains (takes.chains has);
  laid = λ items laid. laid_place page_size part d e row new items (laid_take part b d old items laid takes) places;
  spare = λ has. places.moves.sound (takes.moves.sound has);
  count = omega (arith, takes.moves.count, places.moves.count);
  stays = λ j nz kind used.
      (let not_given : times j takes.given ≡ 0 = none_given j kind in
      let kind_d : kind_of (page_at d j) ≡ kind_of (page_at b j) = takes.kinds j not_given in
      let not_made : times j places.made ≡ 0 = none_made j kind_d used in
      places.others j nz (λ z. kind (sym kind_d ∙ z)) not_made ∙ takes.others j nz kind);
  numbers = λ slot is not_reuse not_pages not_bucket. places.numbers slot is not_reuse not_pages not_bucket ∙ takes.numbers slot is not_reuse not_pages not_bucket;
}
  where
    none_given : (j : ℕ) → kind_of (page_at b j) ≢ DATA_KIND → times j takes.given ≡ 0
    none_given j kind = elim (cases_lt 0 (times j takes.given)) [
      | inl some ↦ absurd (kind (takes.only j (omega (arith, some))).1)
      | inr none ↦ omega (arith, none)
    ]

    none_made : (j : ℕ) → kind_of (page_at d j) ≡ kind_of (page_at b j) → (IsUnused b j → ⊥) → times j places.made ≡ 0
    none_made j same used = elim (cases_lt 0 (times j places.made)) [
      | inl some ↦ absurd (used (elim (places.only j (omega (arith, some))).1 [
        | inl reuse ↦ inl (sym same ∙ reuse)
        | inr past ↦ inr (omega (arith, past, takes.moves.count))
      ]))
      | inr none ↦ omega (arith, none)
    ]
