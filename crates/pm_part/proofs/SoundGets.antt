-- No bad page comes of a get over a well-formed partition.
use Rattle.std.proofs.Common.{◌≡◌, ℕ, zero, suc, ◌+◌, ◌*◌, ◌%◌, ◌<◌, ◌≤◌, List, [], ◌∷◌, None, Some, refl, sym, ap, subst, ◌∙◌, inl, inr, arith}
use Rattle.std.specs.Prelude.{◌^◌, IfSome, IsSome, Any}
use Rattle.std.specs.Ordering.{nat_cmp}
use Rattle.std.specs.declared.cmp.Ordering.{Ordering}
use Rattle.std.specs.declared.cmp.Ordering.TheVariants.{Less, Equal, Greater}
use Rattle.std.specs.Cmp.Lexicographic.{slice_cmp}
use Rattle.std.proofs.lemmas.Map.Lookups.{exact_bytes}
use Rattle.std.proofs.lemmas.Bool.{false≢true}
use Rattle.pm_types.specs.declared.shape.Shape.{Shape}
use Rattle.pm_types.specs.declared.page_id.Link.{Link}
use Rattle.pm_types.specs.Ids.{page_id, page_of_link, index_of_id}
use Rattle.pm_btpage.specs.IndexPages.{Item}
use Rattle.pm_data.specs.Rows.{IsRow}
use Rattle.pm_data.specs.DataPages as data_page
use Rattle.pm_data.specs.DataPages.{slot_at, row_at, IsDataPage}
use Rattle.pm_data.proofs.RowsByItem.{live_item, get_or-rows_of, row_in_live}
use Rattle.pm_meta.specs.declared.slots.MetaSlot.TheVariants.{Pages}
use Rattle.pm_pages.specs.declared.row.Row.{Row}
use Rattle.pm_pages.specs.Rows.{Partition, bytes_of, page_at, page_count, kind_of, rows_of}
use Rattle.pm_pages.specs.Trees.{IsItemOf}
use Rattle.pm_pages.specs.PageLists.{IsReadable, ReadsAt}
use Rattle.pm_pages.specs.Paged.{Paged, AllReadable}
use Rattle.pm_pages.specs.Edits.{LooksAtPages, HasMeta, IsNumberIn}
use Rattle.pm_pages.specs.SoundPages.{PassesAll}
use Rattle.pm_pages.proofs.PageReads.{page_at-below}
use Rattle.pm_pages.proofs.ToldPages.{number_told, pages_told}
use Rattle.pm_tree.specs.Maps.{get_in, by_order}
use Rattle.pm_tree.specs.Indexes.{as_link}
use Rattle.pm_part.specs.declared.spots.Spot.{Spot}
use Rattle.pm_part.specs.Spots.{LeadsTo, LeadsNowhere, HasNoRowIn}
use Rattle.pm_part.specs.RowNames.{NamesRow}
use Rattle.pm_part.specs.Runs.{IsPartitionOf}
use Rattle.pm_part.proofs.CacheIndexes.{HasIndex}
use Rattle.pm_part.proofs.DroppedRows.{few_pages, meta_no_data}
use Rattle.pm_pages.proofs.RowPlaces.{rows_each, same_name}
use Rattle.pm_part.proofs.OneMore.{met}
use Rattle.pm_pages.proofs.Quantified.{Holds, Each, each_of, holds_of}

-- the item of a key that has a word
get_some : (items : List Item) (key : List ℕ) (word : ℕ) → get_in items key ≡ Some word → Holds (λ (item : Item). (item.key ≡ key) × (item.word ≡ word)) items
get_some [] key word is = absurd (cc is)
get_some (item ∷ items) key word is = step item items key word (λ h. get_some items key word h) (slice_cmp nat_cmp item.key key) refl is
  where
    step : (item : Item) (items : List Item) (key : List ℕ) (word : ℕ) → (get_in items key ≡ Some word → Holds (λ (it : Item). (it.key ≡ key) × (it.word ≡ word)) items) → (o : Ordering) → slice_cmp nat_cmp item.key key ≡ o → by_order o (get_in items key) (Some item.word) None ≡ Some word → Holds (λ (it : Item). (it.key ≡ key) × (it.word ≡ word)) (item ∷ items)
    step item items key word rest Less e h = inr (rest h)
    step item items key word rest Equal e h = inl (exact_bytes item.key key e, cc)
    step item items key word rest Greater e h = absurd (cc h)

-- the word that the index of a cache has at a key names its row
pub names_row : (p : Paged) (cache : ℕ) (key : List ℕ) (word : ℕ) → (ix : HasIndex p.pages (rows_of p.part p.pages) cache) → get_in ix.items key ≡ Some word → NamesRow p.part p.pages (as_link word) cache key
names_row p cache key word ix is =
    let rows = rows_of p.part p.pages in
    let Stands : Row → Type 0 = λ r. NamesRow p.part p.pages r.link r.cache r.key in
    let stand : Each Stands rows = rows_each Stands p.part p.pages (λ j k row lt kind live. record { at = j; item = k; row = row; is = refl; below = lt; kind = kind; live = live; cache_is = refl; key_is = refl }) in
    met (λ (item : Item). Any (IsItemOf cache item) rows) (λ (item : Item). (item.key ≡ key) × (item.word ≡ word)) ix.items (each_of _ ix.items ix.lists.only) (get_some ix.items key word is) (λ item of_row is_key.
    met Stands (IsItemOf cache item) rows stand (holds_of _ rows of_row) (λ row stands of_item.
    let named : row.link ≡ as_link word = (λ k. record { 0 = (sym of_item.word ∙ is_key.1) k }) in
    subst (λ (q : Link × ℕ × List ℕ). NamesRow p.part p.pages q.0 q.1 q.2) {x = (row.link, row.cache, row.key)} {y = (as_link word, cache, key)} (λ k. (named k, of_item.cache_is k, (sym of_item.key ∙ is_key.0) k)) stands))

-- a row of a data page is a row
row_is_row : (page : List ℕ) (item : ℕ) (row : List ℕ) → IsDataPage page → row_at (data_page.rows_of page) item ≡ Some row → IsRow row
row_is_row page item row is live =
    let on = live_item page item (subst IsSome (sym live) refl) in
    let bytes = sym (get_or-rows_of page item None on.0 ∙ row_in_live page (slot_at page item) on.1) ∙ live in
    elim (is.rows.each item on.0) [
      | inl empty ↦ absurd (false≢true (sym on.1 ∙ empty))
      | inr holds ↦ subst IsRow (some_is _ row bytes) holds.row
    ]
  where
    some_is : (a b : List ℕ) → Some a ≡ Some b → a ≡ b
    some_is a b e = cc

-- a link that names a row leads to a page
pub leads_somewhere : (shape : Shape) (p : Paged) (at_link : Link) (cache count : ℕ) (key : List ℕ) → IsPartitionOf shape p → HasMeta p → AllReadable p → IsNumberIn p Pages count → NamesRow p.part p.pages at_link cache key → LeadsNowhere at_link p.part count → ⊥
leads_somewhere shape p at_link cache count key is meta reads number names wrong =
    let at = names.at in
    let fits : at < 2 ^ 32 = omega (arith, names.below, few_pages shape p is) in
    let word : at_link.0 ≡ names.item * 2 ^ 56 + (2 ^ 48 + p.part * 2 ^ 32 + at) % 2 ^ 56 = ap (λ (l : Link). l.0) names.is in
    let page : at_link.0 % 2 ^ 56 ≡ 2 ^ 48 + p.part * 2 ^ 32 + at = omega (arith, word, is.part, fits) in
    let index : index_of_id (page_of_link at_link) ≡ at = omega (arith, page, is.part, fits) in
    elim wrong [
      | inl first ↦ meta_no_data p reads meta (ap (λ i. kind_of (page_at p.pages i)) (sym first ∙ index) ∙ names.kind)
      | inr more ↦ elim more [
        | inl past ↦ omega (arith, past, index, names.below, number_told p Pages count number)
        | inr other ↦ other ((λ k. record { 0 = page k }) ∙ ap (page_id p.part) (sym index))
      ]
    ]

reads_some : (i : ℕ) (page : List ℕ) → 1 ≤ i → ReadsAt i page → IsReadable page
reads_some zero page some reads = absurd (omega (arith, some))
reads_some (suc i) page some reads = reads

-- the row that a link names is on its page
pub row_stands : (shape : Shape) (p : Paged) (at_link : Link) (cache count : ℕ) (key : List ℕ) (spot : Spot) → IsPartitionOf shape p → AllReadable p → IsNumberIn p Pages count → NamesRow p.part p.pages at_link cache key → LeadsTo at_link p.part count spot → HasNoRowIn p spot.at spot.item cache key → ⊥
row_stands shape p at_link cache count key spot is reads number names leads none =
    let lt : spot.at < page_count p.pages = omega (arith, leads.below, number_told p Pages count number) in
    let same = same_name p.part names.at names.item spot.at spot.item is.part (omega (arith, names.below, few_pages shape p is)) (omega (arith, lt, few_pages shape p is)) (sym names.is ∙ leads.is) in
    let here : page_at p.pages names.at ≡ none.page = ap (page_at p.pages) same.0 ∙ page_at-below p.pages spot.at lt ∙ ap bytes_of none.in_hand.page in
    let kind = ap kind_of (sym here) ∙ names.kind in
    let readable = reads_some spot.at none.page leads.some (subst (λ o. IfSome o (ReadsAt spot.at)) none.in_hand.page (reads.each spot.at none.in_hand.known)) in
    let well_made = readable.data_page kind in
    let live : row_at (data_page.rows_of none.page) spot.item ≡ Some names.row = (λ k. row_at (data_page.rows_of (sym here k)) (sym same.1 k)) ∙ names.live in
    none.none names.row (record { kind = kind; well_made = well_made; live = live; is_row = row_is_row none.page spot.item names.row well_made live; cache_is = names.cache_is; key_is = names.key_is })

pub passes_all : (shape : Shape) (p : Paged) → IsPartitionOf shape p → PassesAll p
passes_all shape p is = record { shape = shape; page_size = is.page_size; max_rows = is.max_rows; pass = is.well_formed.all_pass }

-- a link names its row still after looks
pub names_looked : (T : Type 0) (a b : Paged) (m : ℕ) (at_link : Link) (cache : ℕ) (key : List ℕ) → T → LooksAtPages T a b m → NamesRow a.part a.pages at_link cache key → NamesRow b.part b.pages at_link cache key
names_looked T a b m at_link cache key t looks names = subst (λ (q : ℕ × Partition). NamesRow q.0 q.1 at_link cache key) {x = (a.part, a.pages)} {y = (b.part, b.pages)} (λ k. (sym looks.same.part k, sym (pages_told T a b m t looks) k)) names
