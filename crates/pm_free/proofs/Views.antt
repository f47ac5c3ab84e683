-- What one change left of each page's neighbours and of the heads of the buckets, and what it left alone.
use Rattle.std.proofs.Common.{◌≡◌, ◌≢◌, ℕ, ◌*◌, ◌/◌, ◌<◌, List, [], ◌==◌, length, refl, sym, ap, subst, ◌∙◌, inl, inr, arith}
use Rattle.std.specs.Prelude.{if◌then◌else◌, nat_lt}
use Rattle.std.proofs.lemmas.Bool.{cases_eq, cases_lt, eq-eqb, ne_eqb, le-ltb}
use Rattle.pm_types.specs.declared.page_id.PageId.{PageId}
use Rattle.pm_data.specs.declared.layout.TheConstants.{DATA_KIND}
use Rattle.pm_data.specs.DataPages.{DataPage, data_of, rows_of, room_beside, IsDataPage}
use Rattle.pm_data.proofs.RowsByItem.{room_is}
use Rattle.pm_meta.specs.declared.layout.TheConstants.{BUCKETS, REUSE_KIND, META_KIND}
use Rattle.pm_meta.specs.declared.slots.MetaSlot.{MetaSlot}
use Rattle.pm_meta.specs.declared.slots.MetaSlot.TheVariants.{Root, Bucket, Reuse, Pages, Rows}
use Rattle.pm_meta.specs.MetaPages.{IsSlot}
use Rattle.pm_pages.specs.Rows.{Partition, bytes_of, number_in, number_of, page_at, page_count, kind_of, rows_on, rows_from}
use Rattle.pm_pages.specs.Chains.{next_of, before_of, reuse_next_of, bucket_of}
use Rattle.pm_pages.proofs.PageReads.{page_at-below}
use Rattle.pm_pages.proofs.RowsFrom.{rows_on-data}
use Rattle.pm_free.specs.declared.edits.Edit.{Edit}
use Rattle.pm_free.specs.declared.edits.Edit.TheVariants.{Before, After}
use Rattle.pm_free.specs.DataEdits.{edited}
use Rattle.pm_free.specs.Chained.{home_of, KeepsRows, KeepsAllRows}
use Rattle.pm_free.specs.Changes.{EditsPartition, SetsHead, SetsBefore, SetsAfter}
use Rattle.pm_free.proofs.Passing.{keeps_passing_same, keeps_passing_then, edit_passes, head_passes}

-- the page after page j in a bucket's chain; that after 0 is the first
abbrev pub chain_next : Partition → ℕ → ℕ → ℕ
chain_next pages bucket j = if j == 0 then number_in pages (Bucket bucket) else next_of (page_at pages j)

-- the page before page j
abbrev pub chain_before : Partition → ℕ → ℕ
chain_before pages j = before_of (page_at pages j)

pub next_here : (pages : Partition) (bucket j : ℕ) → j ≢ 0 → chain_next pages bucket j ≡ next_of (page_at pages j)
next_here pages bucket j ne = simp (ne_eqb j 0 ne) refl

pub keeps_same : (was now : List ℕ) → now ≡ was → KeepsRows was now
keeps_same was now e = record { kind = ap kind_of e; home = ap home_of e; rows = λ id. ap (rows_on id) e; items = λ k. ap rows_of e; reuse = ap reuse_next_of e }

pub keeps_then : (a b c : List ℕ) → KeepsRows a b → KeepsRows b c → KeepsRows a c
keeps_then a b c x y = record { kind = y.kind ∙ x.kind; home = y.home ∙ x.home; rows = λ id. y.rows id ∙ x.rows id; items = λ k. y.items (x.kind ∙ k) ∙ x.items k; reuse = y.reuse ∙ x.reuse }

pub keeps_all_then : (a b c : Partition) → KeepsAllRows a b → KeepsAllRows b c → KeepsAllRows a c
keeps_all_then a b c x y = record {
  numbers = λ slot is other. y.numbers slot is other ∙ x.numbers slot is other;
  pages = λ j. keeps_then (page_at a j) (page_at b j) (page_at c j) (x.pages j) (y.pages j);
  others = λ j some kind. y.others j some (λ e. kind (sym (x.pages j).kind ∙ e)) ∙ x.others j some kind;
  passes = λ j. keeps_passing_then a b c j (x.passes j) (y.passes j);
}

pub keeps_all_same : (a b : Partition) → b ≡ a → KeepsAllRows a b
keeps_all_same a b e = record {
  numbers = λ slot is other. ap (λ (p : Partition). number_in p slot) e;
  pages = λ j. keeps_same (page_at a j) (page_at b j) (ap (λ (p : Partition). page_at p j) e);
  others = λ j some kind. ap (λ (p : Partition). p j) e;
  passes = λ j. keeps_passing_same a b j (ap (λ (p : Partition). p j) e);
}

-- a data page's room is that beside its rows
pub bucket_beside : (page : List ℕ) → IsDataPage page → bucket_of page ≡ room_beside (length page) (rows_of page) * BUCKETS / length page
bucket_beside page is = ap (λ n. n * BUCKETS / length page) (room_is page is.rows)

pub data_home : (page : List ℕ) → IsDataPage page → home_of page ≡ bucket_of page
data_home page is = simp (eq-eqb (kind_of page) DATA_KIND is.head.kind) refl

pub no_reuse : (page : List ℕ) → kind_of page ≢ REUSE_KIND → reuse_next_of page ≡ 0
no_reuse page other = simp (ne_eqb (kind_of page) REUSE_KIND other) refl

data_no_reuse : (page : List ℕ) → IsDataPage page → reuse_next_of page ≡ 0
data_no_reuse page is = no_reuse page (λ e. omega (arith, e, is.head.kind))

-- two data pages with the same rows
pub keeps_data : (was now : List ℕ) → IsDataPage was → IsDataPage now → length now ≡ length was → rows_of now ≡ rows_of was → KeepsRows was now
keeps_data was now w n size rows = record {
  kind = n.head.kind ∙ sym w.head.kind;
  home = data_home now n ∙ bucket_beside now n ∙ (λ k. room_beside (size k) (rows k) * BUCKETS / size k) ∙ sym (bucket_beside was w) ∙ sym (data_home was w);
  rows = λ id. rows_on-data id now n.head.kind ∙ ap (rows_from id 0) rows ∙ sym (rows_on-data id was w.head.kind);
  items = λ k. rows;
  reuse = data_no_reuse now n ∙ sym (data_no_reuse was w);
}

pub data_next : (page : List ℕ) → IsDataPage page → next_of page ≡ (data_of page).next
data_next page is = simp (eq-eqb (kind_of page) DATA_KIND is.head.kind) refl

pub data_before : (page : List ℕ) → IsDataPage page → before_of page ≡ (data_of page).prev
data_before page is = simp (eq-eqb (kind_of page) DATA_KIND is.head.kind) refl

-- page `at` became another, and no other page changed
pub record ViewsEdit (old new : Partition) (at prev next : ℕ) : Type 0 where
  pub count : page_count new ≡ page_count old
  pub numbers : (slot : MetaSlot) → number_in new slot ≡ number_in old slot
  pub after : next_of (page_at new at) ≡ next
  pub before : before_of (page_at new at) ≡ prev
  pub others : (j : ℕ) → j ≢ at → page_at new j ≡ page_at old j

pub same_page : (old new : Partition) (j : ℕ) → page_count new ≡ page_count old → new j ≡ old j → page_at new j ≡ page_at old j
same_page old new j count same = λ k. if nat_lt j (count k) then bytes_of (same k) else []

module _ (at : ℕ) (row : List ℕ) (edit : Edit) (old new : Partition) (e : EditsPartition at row edit old new) where
  pub edit_numbers : (slot : MetaSlot) → number_in new slot ≡ number_in old slot
  edit_numbers slot = ap (λ o. number_of o slot) (e.others 0 (λ z. e.some (sym z)))

  pub was_page : page_at old at ≡ e.was
  was_page = page_at-below old at e.below ∙ ap bytes_of e.before

  pub now_page : page_at new at ≡ e.now
  now_page = page_at-below new at (omega (arith, e.below, edit_numbers Pages)) ∙ ap bytes_of e.after

  pub views_edit : ViewsEdit old new at (edited (data_of e.was) row edit).prev (edited (data_of e.was) row edit).next
  views_edit = record {
    count = edit_numbers Pages;
    numbers = edit_numbers;
    after = ap next_of now_page ∙ data_next e.now e.edits.well_made ∙ ap (λ (s : DataPage). s.next) e.edits.says;
    before = ap before_of now_page ∙ data_before e.now e.edits.well_made ∙ ap (λ (s : DataPage). s.prev) e.edits.says;
    others = λ j ne. same_page old new j (edit_numbers Pages) (e.others j ne);
  }

  -- where the rows stayed
  pub keeps_edit : (edited (data_of e.was) row edit).rows ≡ rows_of e.was → KeepsAllRows old new
  keeps_edit rows = record {
    numbers = λ slot is other. edit_numbers slot;
    pages = λ j. elim (cases_eq j at) [
      | inl z ↦ subst (λ n. KeepsRows (page_at old n) (page_at new n)) (sym z)
          (subst (λ (p : List ℕ × List ℕ). KeepsRows p.0 p.1) {x = (e.was, e.now)} (λ k. (sym was_page k, sym now_page k))
          (keeps_data e.was e.now e.well_made e.edits.well_made e.edits.size (ap (λ (s : DataPage). s.rows) e.edits.says ∙ rows)))
      | inr ne ↦ keeps_same (page_at old j) (page_at new j) (views_edit.others j ne)
    ];
    others = λ j some kind. e.others j (λ z. kind (ap (λ n. kind_of (page_at old n)) z ∙ ap kind_of was_page ∙ e.well_made.head.kind));
    passes = λ j. edit_passes at row edit old new e (λ some. omega (arith, some, ap length (ap (λ (s : DataPage). s.rows) e.edits.says ∙ rows))) j;
  }

  pub was_next : next_of (page_at old at) ≡ (data_of e.was).next
  was_next = ap next_of was_page ∙ data_next e.was e.well_made

  pub was_before : before_of (page_at old at) ≡ (data_of e.was).prev
  was_before = ap before_of was_page ∙ data_before e.was e.well_made

-- a page of another kind names no neighbours
pub other_next : (page : List ℕ) → kind_of page ≢ DATA_KIND → next_of page ≡ 0
other_next page other = simp (ne_eqb (kind_of page) DATA_KIND other) refl

pub other_before : (page : List ℕ) → kind_of page ≢ DATA_KIND → before_of page ≡ 0
other_before page other = simp (ne_eqb (kind_of page) DATA_KIND other) refl

pub other_home : (page : List ℕ) → kind_of page ≢ DATA_KIND → home_of page ≡ BUCKETS
other_home page other = simp (ne_eqb (kind_of page) DATA_KIND other) refl

-- two meta pages keep each other's rows, since they have none
pub meta_rows : (id : PageId) (page : List ℕ) → kind_of page ≢ DATA_KIND → rows_on id page ≡ []
meta_rows id page other = simp (ne_eqb (kind_of page) DATA_KIND other) refl

pub meta_keeps : (was now : List ℕ) → kind_of was ≡ META_KIND → kind_of now ≡ META_KIND → KeepsRows was now
meta_keeps was now w n =
    let wd : kind_of was ≢ DATA_KIND = λ e. omega (arith, e, w) in
    let nd : kind_of now ≢ DATA_KIND = λ e. omega (arith, e, n) in
    record {
      kind = n ∙ sym w;
      home = other_home now nd ∙ sym (other_home was wd);
      rows = λ id. meta_rows id now nd ∙ sym (meta_rows id was wd);
      items = λ k. absurd (wd k);
      reuse = no_reuse now (λ e. omega (arith, e, n)) ∙ sym (no_reuse was (λ e. omega (arith, e, w)));
    }

-- the bucket of a slot
abbrev bucket_in : MetaSlot → ℕ
bucket_in (Root cache) = 0
bucket_in (Bucket bucket) = bucket
bucket_in Reuse = 0
bucket_in Pages = 0
bucket_in Rows = 0

module _ (bucket index : ℕ) (old new : Partition) (s : SetsHead bucket index old new) where
  head_number : (slot : MetaSlot) → IsSlot slot → slot ≢ Bucket bucket → number_in new slot ≡ number_in old slot
  head_number slot is other = ap (λ o. number_of o slot) s.after ∙ s.sets.others slot is other ∙ sym (ap (λ o. number_of o slot) s.before)

  pub head_here : number_in new (Bucket bucket) ≡ index
  head_here = ap (λ o. number_of o (Bucket bucket)) s.after ∙ s.sets.here

  pub head_other : (b : ℕ) → b < BUCKETS → b ≢ bucket → number_in new (Bucket b) ≡ number_in old (Bucket b)
  head_other b few ne = head_number (Bucket b) few (λ e. ne (ap bucket_in e))

  head_count : page_count new ≡ page_count old
  head_count = head_number Pages tt (λ e. cc e)

  pub head_pages : (j : ℕ) → j ≢ 0 → page_at new j ≡ page_at old j
  head_pages j ne = same_page old new j head_count (s.others j ne)

  -- the first page as it is read
  first_page : (KeepsRows (page_at old 0) (page_at new 0)) × (next_of (page_at new 0) ≡ next_of (page_at old 0)) × (before_of (page_at new 0) ≡ before_of (page_at old 0))
  first_page = elim (cases_lt 0 (page_count old)) [
    | inl lt ↦
        let was : page_at old 0 ≡ s.was = page_at-below old 0 lt ∙ ap bytes_of s.before in
        let now : page_at new 0 ≡ s.now = page_at-below new 0 (omega (arith, lt, head_count)) ∙ ap bytes_of s.after in
        let w : kind_of (page_at old 0) ≡ META_KIND = ap kind_of was ∙ s.well_made.form.kind in
        let n : kind_of (page_at new 0) ≡ META_KIND = ap kind_of now ∙ s.well_made_now.form.kind in
        let wd : kind_of (page_at old 0) ≢ DATA_KIND = λ e. omega (arith, e, w) in
        let nd : kind_of (page_at new 0) ≢ DATA_KIND = λ e. omega (arith, e, n) in
        (meta_keeps (page_at old 0) (page_at new 0) w n, other_next (page_at new 0) nd ∙ sym (other_next (page_at old 0) wd), other_before (page_at new 0) nd ∙ sym (other_before (page_at old 0) wd))
    | inr le ↦
        let e : page_at new 0 ≡ page_at old 0 =
        (λ k. if le-ltb 0 (page_count new) (omega (arith, le, head_count)) k then bytes_of (new 0) else []) ∙ sym (λ k. if le-ltb 0 (page_count old) le k then bytes_of (old 0) else []) in
        (keeps_same (page_at old 0) (page_at new 0) e, ap next_of e, ap before_of e)
  ]

  pub keeps_head : (index ≢ 0 → index < page_count old) → KeepsAllRows old new
  keeps_head below = record {
    numbers = λ slot is other. head_number slot is (other bucket);
    pages = λ j. elim (cases_eq j 0) [
      | inl e ↦ subst (λ n. KeepsRows (page_at old n) (page_at new n)) (sym e) first_page.0
      | inr ne ↦ keeps_same (page_at old j) (page_at new j) (head_pages j ne)
    ];
    others = λ j some kind. s.others j some;
    passes = λ j. head_passes bucket index old new s below j;
  }

  pub head_before : (j : ℕ) → chain_before new j ≡ chain_before old j
  head_before j = elim (cases_eq j 0) [
    | inl e ↦ subst (λ n. chain_before new n ≡ chain_before old n) (sym e) first_page.2
    | inr ne ↦ ap before_of (head_pages j ne)
  ]

  pub head_next : (b j : ℕ) → j ≢ 0 → chain_next new b j ≡ chain_next old b j
  head_next b j ne = next_here new b j ne ∙ ap next_of (head_pages j ne) ∙ sym (next_here old b j ne)

-- of the page `at`, or of a bucket, the page after it changed alone
pub record ViewsAfter (bucket at next : ℕ) (old new : Partition) : Type 0 where
  pub keeps : KeepsAllRows old new
  pub here : chain_next new bucket at ≡ next
  pub heads : (b : ℕ) → b < BUCKETS → b ≢ bucket → number_in new (Bucket b) ≡ number_in old (Bucket b)
  pub others : (b j : ℕ) → b < BUCKETS → j ≢ at → chain_next new b j ≡ chain_next old b j
  pub before : (j : ℕ) → chain_before new j ≡ chain_before old j

pub views_after : (bucket at next : ℕ) (old new : Partition) → (next ≢ 0 → next < page_count old) → SetsAfter bucket at next old new → ViewsAfter bucket at next old new
views_after bucket at next old new below sets = elim (cases_eq at 0) [
  | inl e ↦ (let s = sets.none e in record {
    keeps = keeps_head bucket next old new s below;
    here = ap (λ n. chain_next new bucket n) e ∙ head_here bucket next old new s;
    heads = head_other bucket next old new s;
    others = λ b j few ne. head_next bucket next old new s b j (λ z. ne (z ∙ sym e));
    before = head_before bucket next old new s;
  })
  | inr some ↦
      let s = sets.some some in
      let v = views_edit at [] (After next) old new s in
      record {
        keeps = keeps_edit at [] (After next) old new s refl;
        here = next_here new bucket at some ∙ v.after;
        heads = λ b few ne. v.numbers (Bucket b);
        others = λ b j few ne. (λ k. if j == 0 then v.numbers (Bucket b) k else next_of (v.others j ne k));
        before = λ j. elim (cases_eq j at) [
          | inl e ↦ subst (λ n. chain_before new n ≡ chain_before old n) (sym e) (v.before ∙ sym (was_before at [] (After next) old new s))
          | inr ne ↦ ap before_of (v.others j ne)
        ];
      }
]

-- of the page `at`, if there is one, the page before it changed alone
pub record ViewsBefore (at prev : ℕ) (old new : Partition) : Type 0 where
  pub keeps : KeepsAllRows old new
  pub here : at ≢ 0 → chain_before new at ≡ prev
  pub others : (j : ℕ) → j ≢ at → chain_before new j ≡ chain_before old j
  pub after : (b j : ℕ) → chain_next new b j ≡ chain_next old b j

pub views_before : (at prev : ℕ) (old new : Partition) → SetsBefore at prev old new → ViewsBefore at prev old new
views_before at prev old new sets = elim (cases_eq at 0) [
  | inl e ↦ (let s = sets.none e in record {
    keeps = keeps_all_same old new s;
    here = λ some. absurd (some e);
    others = λ j ne. ap (λ (p : Partition). chain_before p j) s;
    after = λ b j. ap (λ (p : Partition). chain_next p b j) s;
  })
  | inr some ↦
      let s = sets.some some in
      let v = views_edit at [] (Before prev) old new s in
      record {
        keeps = keeps_edit at [] (Before prev) old new s refl;
        here = λ some. v.before;
        others = λ j ne. ap before_of (v.others j ne);
        after = λ b j. elim (cases_eq j at) [
          | inl e ↦ subst (λ n. chain_next new b n ≡ chain_next old b n) (sym e) (next_here new b at some ∙ v.after ∙ sym (was_next at [] (Before prev) old new s) ∙ sym (next_here old b at some))
          | inr ne ↦ (λ k. if j == 0 then v.numbers (Bucket b) k else next_of (v.others j ne k))
        ];
      }
]
