-- Pages that pass their checks do so still after a row was placed or taken out.
use Rattle.std.proofs.Common.{◌≡◌, ◌≢◌, ℕ, ◌+◌, ◌*◌, ◌<◌, ◌≤◌, ◌⊎◌, List, [], ◌∷◌, length, length-append, take, drop, refl, sym, ap, subst, ◌∙◌, inl, inr, arith}
use Rattle.std.specs.Prelude.{Option, Some}
use Rattle.std.proofs.lemmas.Bool.{cases_eq}
use Rattle.pm_types.specs.Ids.{page_id}
use Rattle.pm_data.specs.DataPages.{DataPage, data_of, rows_of, free_item}
use Rattle.pm_data.proofs.RowsByItem.{length-rows_of}
use Rattle.pm_meta.specs.declared.layout.TheConstants.{EXTRA_PAGES, BUCKETS}
use Rattle.pm_meta.specs.declared.slots.MetaSlot.TheVariants.{Pages}
use Rattle.pm_pages.specs.Passes.{Passes}
use Rattle.pm_pages.specs.Rows.{Partition, page_count}
use Rattle.pm_pages.specs.Paged.{Paged, SamePartition}
use Rattle.pm_pages.specs.Edits.{LooksAtPages, EditsPages, HasMeta}
use Rattle.pm_pages.specs.SparePages.{TakesPage, GivesPage, IsMetaOr}
use Rattle.pm_pages.specs.SoundPages.{CanTake}
use Rattle.pm_pages.specs.StoredPages.{IsStored, IsStoredPage}
use Rattle.pm_pages.proofs.EditedPages.{same_then, some_bytes}
use Rattle.pm_meta.specs.MetaPages.{IsStoredReuse}
use Rattle.pm_pages.proofs.PassingLooks.{meta_passes, page_passes, page_there}
use Rattle.pm_pages.proofs.PassingPages.{passes_same, there_still, meta_taken}
use Rattle.pm_pages.proofs.StoredPages.{all_there, all_stored, meta_there, stored_looked}
use Rattle.pm_free.specs.declared.edits.Edit.TheVariants.{Insert, Remove}
use Rattle.pm_free.specs.Chained.{MovesPage, SettlesPage}
use Rattle.pm_free.specs.Passing.{KeepsPassing}
use Rattle.pm_free.specs.Changes.{ChangesData, EditsPartition}
use Rattle.pm_free.specs.Placed.{DropsPage, ChangesRows, IsFilledIn}
use Rattle.pm_free.proofs.Passing.{passes_at, at_passes, data_stored, keeps_passing_same, keeps_passing_then, edit_passes}
use Rattle.pm_free.proofs.Views.{edit_numbers}
use Rattle.pm_free.proofs.PlacedPages.{InsertsRow, RemovesRow, filled_edits, filled_added}

-- a page that passes still
page_keeps : (a c : Paged) → SamePartition a c → (i : ℕ) → KeepsPassing a.pages c.pages i → IsStoredPage a i → IsStoredPage c i
page_keeps a c same i keeps there = (let now = keeps a.page_size a.max_rows a.part there in (now.0, now.1, passes_same a c same i now.0 now.2))

-- each page passes still, and there are as many
stored_kept : (a c : Paged) → SamePartition a c → HasMeta a → page_count c.pages ≡ page_count a.pages → ((i : ℕ) → IsStoredPage a i → IsStoredPage c i) → IsStored a → IsStored c
stored_kept a c same meta count keeps stored =
    let size = stored.all.page_size ∙ sym same.page_size in
    let most = stored.all.max_rows ∙ sym same.max_rows in
    let first = some_bytes (a.pages 0) meta.there in
    record {
      all = record {
        shape = stored.all.shape;
        page_size = size;
        max_rows = most;
        pass = all_there c stored.all.shape size most (keeps 0 (first.0, first.1, meta_passes a stored.all first.0 first.1))
            (λ i some lt. keeps i (there_before i (omega (arith, lt, count))));
      };
      rows = omega (arith, stored.rows, same.max_rows);
      part = omega (arith, stored.part, same.part);
    }
  where
    there_before : (i : ℕ) → i < page_count a.pages → IsStoredPage a i
    there_before i lt = (let page = page_there a i stored.all lt in (page.0, page.1, page_passes a i page.0 stored.all lt page.1))

some_rows : (rows : List (Option (List ℕ))) → rows ≢ [] → 1 ≤ length rows
some_rows [] ne = absurd (ne refl)
some_rows (row ∷ rows) ne = omega arith

-- a page has the row that was put in
inserted_some : (at : ℕ) (row : List ℕ) (x y : Partition) (e : EditsPartition at row Insert x y) → 1 ≤ length (rows_of e.now)
inserted_some at row x y e =
    let item = free_item (rows_of e.was) in
    let now = ap (λ (d : DataPage). length d.rows) e.edits.says in
    omega (arith, now, length-append (take item (rows_of e.was)) (Some row ∷ drop (item + 1) (rows_of e.was)))

-- a row was put on a page, which then stood in the chain for its room
pub placed_stored : (T : Type 0) (b d e : Paged) (at bucket item m : ℕ) (row : List ℕ) → T → HasMeta b → ChangesData T b d 0 (InsertsRow at row item) → ChangesData T d e m (λ old new. SettlesPage old new at bucket) → IsStored b → IsStored e
placed_stored T b d e at bucket item m row t meta inserts settles stored =
    let x = (inserts.told t).edits in
    let y = settles.told t in
    let same = same_then b d e inserts.edits.same settles.edits.same in
    stored_kept b e same meta (y.keeps.numbers Pages tt (λ n z. cc z) ∙ edit_numbers at row Insert b.pages d.pages x Pages)
    (λ i. page_keeps b e same i (keeps_passing_then b.pages d.pages e.pages i (edit_passes at row Insert b.pages d.pages x (λ some. inserted_some at row b.pages d.pages x) i) (y.keeps.passes i))) stored

-- a row was taken out of a page and another one put in, and the page then stood in the chain for its room
module _ (b d e f : Paged) (at bucket item : ℕ) (row : List ℕ) (meta : HasMeta b) (out : EditsPartition at [] (Remove item) b.pages d.pages) (put : EditsPartition at row Insert d.pages e.pages)
    (same : SamePartition b f) (settles : SettlesPage e.pages f.pages at bucket) where
  some : 1 ≤ at
  some = pos at out.some
    where
      pos : (n : ℕ) → n ≢ 0 → 1 ≤ n
      pos n ne = omega (arith, ne)

  mid : put.was ≡ out.now
  mid = cc (out.after, put.before)

  both : KeepsPassing b.pages e.pages at
  both page_size max_rows part there =
      let passes = subst (Passes page_size max_rows (page_id part at)) (cc (there.1, out.before)) (at_passes page_size max_rows part at there.0 some there.2) in
      let stored = data_stored page_size max_rows (page_id part at) out.was out.well_made.head.kind passes in (
        put.now,
        put.after,
        passes_at page_size max_rows part at put.now some (record {
          size = put.edits.size ∙ ap (λ (p : List ℕ). length p) mid ∙ out.edits.size ∙ passes.size;
          kind = inr (inr (inl (record {
            own = ap (λ (p : DataPage). p.id) put.edits.says ∙ ap (λ (p : List ℕ). (data_of p).id) mid ∙ ap (λ (p : DataPage). p.id) out.edits.says ∙ stored.own;
            some = omega (arith, inserted_some at row d.pages e.pages put, length-rows_of put.now);
            well_made = put.edits.well_made;
          })));
        }),
      )

  each : (j : ℕ) → KeepsPassing b.pages e.pages j
  each j = elim (cases_eq j at) [
    | inl here ↦ subst (KeepsPassing b.pages e.pages) (sym here) both
    | inr ne ↦ keeps_passing_then b.pages d.pages e.pages j (keeps_passing_same b.pages d.pages j (out.others j ne)) (keeps_passing_same d.pages e.pages j (put.others j ne))
  ]

  pub swapped_stored : IsStored b → IsStored f
  swapped_stored stored =
      stored_kept b f same meta (settles.keeps.numbers Pages tt (λ n z. cc z) ∙ edit_numbers at row Insert d.pages e.pages put Pages ∙ edit_numbers at [] (Remove item) b.pages d.pages out Pages)
      (λ i. page_keeps b f same i (keeps_passing_then b.pages e.pages f.pages i (each i) (settles.keeps.passes i))) stored

-- a row was taken out of a page that has others, which then stood in the chain for its room
pub kept_stored : (T : Type 0) (b e f : Paged) (at bucket item m : ℕ) → T → HasMeta b → ChangesData T b e 0 (RemovesRow at item (λ rows. rows ≢ [])) → ChangesData T e f m (λ old new. SettlesPage old new at bucket) → IsStored b → IsStored f
kept_stored T b e f at bucket item m t meta removes settles stored =
    let x = removes.told t in
    let y = settles.told t in
    let same = same_then b e f removes.edits.same settles.edits.same in
    stored_kept b f same meta (y.keeps.numbers Pages tt (λ n z. cc z) ∙ edit_numbers at [] (Remove item) b.pages e.pages x.edits Pages)
    (λ i. page_keeps b f same i (keeps_passing_then b.pages e.pages f.pages i (edit_passes at [] (Remove item) b.pages e.pages x.edits (λ some. some_rows (rows_of x.edits.now) x.left) i) (y.keeps.passes i))) stored

-- a page lost its last row, and was given back
pub dropped_stored : (T : Type 0) (b e f : Paged) (at bucket item m more : ℕ) → T → HasMeta b → ChangesData T b e 0 (RemovesRow at item (λ rows. rows ≡ [])) → ChangesRows T e f m more (λ old new. DropsPage old new at bucket) → IsStoredPage f at → IsStored b → IsStored f
dropped_stored T b e f at bucket item m more t meta removes drops given stored =
    let x = (removes.told t).edits in
    let y = drops.told t in
    let same = same_then b e f removes.edits.same drops.edits.same in
    stored_kept b f same meta (y.count ∙ edit_numbers at [] (Remove item) b.pages e.pages x Pages)
    (λ i there. elim (cases_eq i at) [
      | inl z ↦ subst (IsStoredPage f) (sym z) given
      | inr ne ↦ page_keeps b f same i (keeps_passing_then b.pages e.pages f.pages i (keeps_passing_same b.pages e.pages i (x.others i ne)) (y.passes i ne)) there
    ]) stored

-- a page that was given back passes as a reuse page
pub given_stored : (T : Type 0) (b c : Paged) (at : ℕ) → 1 ≤ at → GivesPage T b c at → IsStoredPage c at
given_stored T b c at some gives = (
  gives.page,
  gives.here,
  passes_at c.page_size c.max_rows c.part at gives.page some (record {
    size = gives.size ∙ sym gives.edits.same.page_size;
    kind = inr (inr (inr (subst (λ n. IsStoredReuse (page_id n at) gives.page) (sym gives.edits.same.part) gives.stored)));
  }),
)

-- a page that was taken and filled passes as a data page
filled_stored : (d : Paged) (at item : ℕ) (row : List ℕ) → 1 ≤ at → IsFilledIn d at row item → IsStoredPage d at
filled_stored d at item row some fills =
    let rows = ap (λ (p : DataPage). length p.rows) fills.says in (
      fills.page,
      fills.is.in_hand.page,
      passes_at d.page_size d.max_rows d.part at fills.page some (record {
        size = fills.is.size;
        kind = inr (inr (inl (record { own = ap (λ (p : DataPage). p.id) fills.says; some = omega (arith, rows, length-rows_of fills.page); well_made = fills.is.well_made })));
      }),
    )

-- a row was placed on a new page, which was then put at the head of a chain
pub new_stored : (T : Type 0) (a b d e f : Paged) (n at item m bucket limit : ℕ) (row : List ℕ) → T → TakesPage T a b n at → EditsPages T b d (λ j. j ≡ at) 0 → IsFilledIn d at row item
    → (page_count d.pages ≡ page_count a.pages) ⊎ ((page_count d.pages ≡ page_count a.pages + 1) × (at ≡ page_count a.pages)) → HasMeta e → LooksAtPages T d e 0 → ChangesData T e f m (λ old new. MovesPage old new at BUCKETS bucket)
    → limit ≤ 2 * a.max_rows + EXTRA_PAGES → CanTake limit a 1 → IsStored a → IsStored f
new_stored T a b d e f n at item m bucket limit row t takes edits fills count meta looks links small can stored =
    let meta_b = meta_taken T a b n at limit t takes can.spare small can.room (meta_there a stored.all can.some) in
    let meta_d = there_still b d edits.same 0 (edits.others 0 (inl t) (λ z. omega (arith, z, takes.some))) meta_b in
    let stored_d : IsStored d = all_stored T a d (IsMetaOr at) n t (filled_edits T a b d n at takes edits)
    (λ j. elim (cases_eq j 0) [ inl z ↦ inl (inl z) | inr nz ↦ elim (cases_eq j at) [ inl z ↦ inl (inr z) | inr ne ↦ inr (λ h. elim h [ inl z ↦ nz z | inr z ↦ ne z ]) ] ])
    meta_d
    (λ part j some low h. elim h [ inl z ↦ absurd (omega (arith, z, some)) | inr z ↦ subst (IsStoredPage d) (sym z) (filled_stored d at item row takes.some fills) ])
    (filled_added (page_count a.pages) (page_count d.pages) at count) stored in
    let moves = links.told t in
    stored_kept e f links.edits.same meta (moves.keeps.numbers Pages tt (λ k z. cc z)) (λ i. page_keeps e f links.edits.same i (moves.keeps.passes i)) (stored_looked T d e 0 t looks stored_d)
