-- Pages pass their checks still: after a data page was changed, and after a number of the meta page was set.
use Rattle.std.proofs.Common.{◌≡◌, ◌≢◌, ℕ, zero, suc, ◌<◌, ◌≤◌, List, length, refl, sym, ap, subst, ◌∙◌, inl, inr, arith}
use Rattle.std.specs.Prelude.{Some}
use Rattle.std.proofs.lemmas.Bool.{cases_eq}
use Rattle.pm_types.specs.Ids.{page_id}
use Rattle.pm_types.specs.declared.page_id.PageId.{PageId}
use Rattle.pm_data.specs.declared.layout.TheConstants.{DATA_KIND}
use Rattle.pm_data.specs.DataPages.{DataPage, data_of, rows_of, IsStoredPage}
use Rattle.pm_data.proofs.RowsByItem.{length-rows_of}
use Rattle.pm_meta.specs.declared.slots.MetaSlot.{MetaSlot}
use Rattle.pm_meta.specs.declared.slots.MetaSlot.TheVariants.{Bucket, Pages}
use Rattle.pm_meta.specs.MetaPages.{IsInBounds, IsStoredMeta}
use Rattle.pm_pages.specs.Rows.{Partition, page_count, kind_of}
use Rattle.pm_pages.specs.Passes.{Passes, PassesAt}
use Rattle.pm_pages.specs.SparePages.{SetsNumber}
use Rattle.pm_pages.proofs.SpareSteps.{number_by}
use Rattle.pm_free.specs.declared.edits.Edit.{Edit}
use Rattle.pm_free.specs.declared.edits.Edit.TheVariants.{Before, After, Links, Insert, Remove}
use Rattle.pm_free.specs.DataEdits.{edited}
use Rattle.pm_free.specs.Passing.{KeepsPassing}
use Rattle.pm_free.specs.Changes.{EditsPartition, SetsHead}

-- the check of a page that isn't the first
pub passes_at : (page_size max_rows part i : ℕ) (page : List ℕ) → 1 ≤ i → Passes page_size max_rows (page_id part i) page → PassesAt page_size max_rows part i page
passes_at page_size max_rows part zero page some passes = absurd (omega (arith, some))
passes_at page_size max_rows part (suc i) page some passes = passes

pub at_passes : (page_size max_rows part i : ℕ) (page : List ℕ) → 1 ≤ i → PassesAt page_size max_rows part i page → Passes page_size max_rows (page_id part i) page
at_passes page_size max_rows part zero page some passes = absurd (omega (arith, some))
at_passes page_size max_rows part (suc i) page some passes = passes

-- a data page passes as one
pub data_stored : (page_size max_rows : ℕ) (id : PageId) (page : List ℕ) → kind_of page ≡ DATA_KIND → Passes page_size max_rows id page → IsStoredPage id page
data_stored page_size max_rows id page kind passes = elim passes.kind [
  | inl meta ↦ absurd (omega (arith, kind, meta.well_made.form.kind))
  | inr r ↦ elim r [
    | inl index ↦ absurd (elim index.well_made.head.kind [ inl k ↦ omega (arith, kind, k) | inr k ↦ omega (arith, kind, k) ])
    | inr r2 ↦ elim r2 [
      | inl data_page ↦ data_page
      | inr reuse ↦ absurd (omega (arith, kind, reuse.well_made.kind))
    ]
  ]
]

-- a page that wasn't changed, and changes one after the other
pub keeps_passing_same : (a b : Partition) (j : ℕ) → b j ≡ a j → KeepsPassing a b j
keeps_passing_same a b j e page_size max_rows part there = (there.0, e ∙ there.1, there.2)

pub keeps_passing_then : (a b c : Partition) (j : ℕ) → KeepsPassing a b j → KeepsPassing b c j → KeepsPassing a c j
keeps_passing_then a b c j x y page_size max_rows part there = y page_size max_rows part (x page_size max_rows part there)

-- no change gives a page another name
edited_id : (page : DataPage) (row : List ℕ) (edit : Edit) → (edited page row edit).id ≡ page.id
edited_id page row (Before at) = refl
edited_id page row (After at) = refl
edited_id page row (Links prev next) = refl
edited_id page row Insert = refl
edited_id page row (Remove item) = refl

-- a data page was changed, and has a row still if it had one
pub edit_passes : (at : ℕ) (row : List ℕ) (edit : Edit) (old new : Partition) (e : EditsPartition at row edit old new) → (1 ≤ length (rows_of e.was) → 1 ≤ length (rows_of e.now)) → (j : ℕ) → KeepsPassing old new j
edit_passes at row edit old new e left j = elim (cases_eq j at) [
  | inl same ↦ subst (KeepsPassing old new) (sym same) here
  | inr ne ↦ keeps_passing_same old new j (e.others j ne)
]
  where
    pos : (n : ℕ) → n ≢ 0 → 1 ≤ n
    pos n ne = omega (arith, ne)

    here : KeepsPassing old new at
    here page_size max_rows part there =
        let some = pos at e.some in
        let same : there.0 ≡ e.was = cc (there.1, e.before) in
        let passes : Passes page_size max_rows (page_id part at) e.was = subst (Passes page_size max_rows (page_id part at)) same (at_passes page_size max_rows part at there.0 some there.2) in
        let stored = data_stored page_size max_rows (page_id part at) e.was e.well_made.head.kind passes in (
          e.now,
          e.after,
          passes_at page_size max_rows part at e.now some (record {
            size = e.edits.size ∙ passes.size;
            kind = inr (inr (inl (record {
              own = ap (λ (d : DataPage). d.id) e.edits.says ∙ edited_id (data_of e.was) row edit ∙ stored.own;
              some = omega (arith, left (omega (arith, stored.some, length-rows_of e.was)), length-rows_of e.now);
              well_made = e.edits.well_made;
            })));
          }),
        )

-- a number of the meta page was set to one that may stand there
pub meta_passes : (old new : Partition) (was now : List ℕ) (slot : MetaSlot) (value : ℕ) → old 0 ≡ Some was → new 0 ≡ Some now → SetsNumber was now slot value → ((id : PageId) (max_rows : ℕ) → IsStoredMeta id max_rows was → IsInBounds max_rows was slot value) → KeepsPassing old new 0
meta_passes old new was now slot value before after sets bounds page_size max_rows part there =
    let same : there.0 ≡ was = cc (there.1, before) in
    let passes = subst (PassesAt page_size max_rows part 0) same there.2 in
    (now, after, record { size = sets.size ∙ passes.size; stored = sets.stored (page_id part 0) max_rows passes.stored (bounds (page_id part 0) max_rows passes.stored) })

-- a bucket got another first page
pub head_passes : (bucket index : ℕ) (old new : Partition) (s : SetsHead bucket index old new) → (index ≢ 0 → index < page_count old) → (j : ℕ) → KeepsPassing old new j
head_passes bucket index old new s below j = elim (cases_eq j 0) [
  | inl same ↦ subst (KeepsPassing old new) (sym same)
      (meta_passes old new s.was s.now (Bucket bucket) index s.before s.after s.sets (λ id max_rows stored. elim (cases_eq index 0) [
        | inl none ↦ omega (arith, none, stored.counts.some)
        | inr some ↦ omega (arith, below some, number_by old Pages s.was s.before)
      ]))
  | inr ne ↦ keeps_passing_same old new j (s.others j ne)
]
