-- In a well-formed partition each item of an index names the row of its key, on a page of the partition.
use Rattle.std.proofs.Common.{◌≡◌, ℕ, zero, suc, ◌+◌, ◌*◌, ◌%◌, ◌/◌, ◌<◌, ◌≤◌, List, [], ◌∷◌, ◌++◌, sym, ap, subst, ◌∙◌, inl, inr, arith}
use Rattle.std.specs.Prelude.{◌^◌, Any}
use Rattle.std.proofs.lemmas.Grind.{flat_map-append}
use Rattle.pm_types.specs.Ids.{link}
use Rattle.pm_types.specs.declared.shape.Shape.{Shape}
use Rattle.pm_btpage.specs.IndexPages.{Item, items_of}
use Rattle.pm_data.specs.declared.layout.TheConstants.{DATA_KIND}
use Rattle.pm_data.specs.DataPages as data_page
use Rattle.pm_data.specs.DataPages.{IsDataPage}
use Rattle.pm_pages.specs.declared.row.Row.{Row}
use Rattle.pm_pages.specs.Rows.{Partition, bytes_of, page_at, page_count, kind_of, rows_of}
use Rattle.pm_pages.specs.Trees.{items_in, IsItemOf}
use Rattle.pm_pages.specs.Paged.{Paged}
use Rattle.pm_pages.proofs.PageReads.{page_at-below}
use Rattle.pm_pages.proofs.PassingLooks.{meta_passes, page_passes, page_there}
use Rattle.pm_pages.proofs.ReadablePages.{passes_read}
use Rattle.pm_pages.proofs.RowPlaces.{StandsAt, all_stand, live_row}
use Rattle.pm_pages.proofs.StoredPages.{count_small, meta_there}
use Rattle.pm_tree.specs.Indexes.{as_link}
use Rattle.pm_part.specs.Runs.{IsPartitionOf}
use Rattle.pm_part.specs.Spots.{IsRowOn}
use Rattle.pm_part.specs.PairReads.{WasRead}
use Rattle.pm_part.specs.PairFaults.{NamedNoRow}
use Rattle.pm_pages.proofs.Quantified.{Each, holds_of, each_left, meets}
use Rattle.pm_part.proofs.ToldPairs.{passes_of}
use Rattle.pm_part.proofs.TreeLeaves.{page_told}

-- the first page is no data page, and any other of this kind reads as one
data_page_is : (shape : Shape) (a : Paged) (i : ℕ) → IsPartitionOf shape a → i < page_count a.pages → kind_of (page_at a.pages i) ≡ DATA_KIND → (1 ≤ i) × IsDataPage (page_at a.pages i)
data_page_is shape a zero of lt kind =
    let passes = passes_of shape a of in
    let page = page_there a 0 passes lt in
    let meta : kind_of (page_at a.pages 0) ≡ 1 = ap kind_of (page_at-below a.pages 0 lt ∙ ap bytes_of page.1) ∙ (meta_passes a passes page.0 page.1).stored.well_made.form.kind in
    absurd (omega (arith, kind, meta))
data_page_is shape a (suc i) of lt kind =
    let passes = passes_of shape a of in
    let page = page_there a (suc i) passes lt in
    let same : page_at a.pages (suc i) ≡ page.0 = page_at-below a.pages (suc i) lt ∙ ap bytes_of page.1 in
    let reads = passes_read a.page_size a.max_rows a.part (suc i) page.0 (page_passes a (suc i) page.0 passes lt page.1) in
    (omega arith, subst IsDataPage (sym same) (reads.data_page (sym (ap kind_of same) ∙ kind)))

few_pages : (shape : Shape) (a : Paged) (i : ℕ) → IsPartitionOf shape a → i < page_count a.pages → page_count a.pages < 2 ^ 32
few_pages shape a i of lt = count_small a of.rows (meta_there a (passes_of shape a of) (omega (arith, lt)))

-- what the link of a row names
pub named_row : (T : Type 0) (shape : Shape) (a : Paged) (count cache word : ℕ) (key : List ℕ) (row : Row) → T → count ≡ page_count a.pages → IsPartitionOf shape a → StandsAt a.part a.pages row → row.cache ≡ cache → row.key ≡ key → word ≡ row.link.0 → NamedNoRow T a count cache (as_link word) key → ⊥
named_row T shape a count cache word key row t all of at cache_is key_is word_is wrong =
    let few = few_pages shape a at.at of at.below in
    let well = data_page_is shape a at.at of at.below at.kind in
    let small : at.at < 2 ^ 32 = omega (arith, at.below, few) in
    let is : word ≡ at.item * 2 ^ 56 + (2 ^ 48 + a.part * 2 ^ 32 + at.at) % 2 ^ 56 = word_is ∙ ap (λ (r : Row). r.link.0) at.is in
    let page_is : word % 2 ^ 56 ≡ 2 ^ 48 + a.part * 2 ^ 32 + at.at = omega (arith, is, of.part, small) in
    let item_is : word / 2 ^ 56 ≡ at.item = omega (arith, is, of.part, small) in
    let index_is : word % 2 ^ 56 % 2 ^ 32 ≡ at.at = omega (arith, page_is, of.part, small) in
    elim wrong [
      | inl nowhere ↦ elim nowhere [
        | inl first ↦ omega (arith, first, index_is, well.0)
        | inr r ↦ elim r [
          | inl past ↦ omega (arith, past, index_is, all, at.below)
          | inr other ↦ other (ap (λ n. record { 0 = n }) (page_is ∙ ap (λ n. 2 ^ 48 + a.part * 2 ^ 32 + n) (sym index_is)))
        ]
      ]
      | inr none ↦
          let page : page_at a.pages at.at ≡ none.page = page_told T a count at.at none.page t all (omega (arith, all, at.below)) (subst (λ i. WasRead T a i none.page) index_is none.read) in
          let row_is : IsRowOn (page_at a.pages at.at) at.item cache key at.bytes = record {
            kind = at.kind;
            well_made = well.1;
            live = at.live;
            is_row = live_row (page_at a.pages at.at) at.item at.bytes well.1 at.live;
            cache_is = sym (ap (λ (r : Row). r.cache) at.is) ∙ cache_is;
            key_is = sym (ap (λ (r : Row). r.key) at.is) ∙ key_is;
          } in
          none.none at.bytes (subst (λ (q : List ℕ × ℕ). IsRowOn q.0 q.1 cache key at.bytes) {x = (page_at a.pages at.at, at.item)} {y = (none.page, word / 2 ^ 56)} (λ i. (page i, sym item_is i)) row_is)
    ]

-- each item that lists a row names it
pub item_names : (T : Type 0) (shape : Shape) (a : Paged) (count cache : ℕ) (item : Item) → T → count ≡ page_count a.pages → IsPartitionOf shape a → Any (IsItemOf cache item) (rows_of a.part a.pages) → NamedNoRow T a count cache (as_link item.word) item.key → ⊥
item_names T shape a count cache item t all of any wrong =
    meets (StandsAt a.part a.pages) (IsItemOf cache item) ⊥ (rows_of a.part a.pages) (all_stand a.part a.pages) (holds_of (IsItemOf cache item) (rows_of a.part a.pages) any)
    (λ row at is. named_row T shape a count cache item.word item.key row t all of at is.cache_is (sym is.key) is.word wrong)

each_right : {A : Type 0} (P : A → Type 0) (xs ys : List A) → Each P (xs ++ ys) → Each P ys
each_right P [] ys each = each
each_right P (x ∷ xs) ys each = each_right P xs ys each.1

-- what holds of the items of some leaves holds of those of each leaf
pub leaf_items : (P : Item → Type 0) (pages : Partition) (done rest : List ℕ) (leaf : ℕ) → Each P (items_in pages (done ++ leaf ∷ rest)) → Each P (items_of (page_at pages leaf))
leaf_items P pages done rest leaf each =
    each_left P (items_of (page_at pages leaf)) (items_in pages rest)
    (each_right P (items_in pages done) (items_in pages (leaf ∷ rest)) (subst (Each P) (flat_map-append (λ i. items_of (page_at pages i)) done (leaf ∷ rest)) each))
