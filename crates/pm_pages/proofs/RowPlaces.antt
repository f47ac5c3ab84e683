-- Where the rows of a partition stand: each is that of an item of a data page, and no two have one link.
use Rattle.std.proofs.Common.{◌≡◌, ◌≢◌, ℕ, zero, suc, ◌+◌, ◌*◌, ◌%◌, ◌<◌, ◌≤◌, List, [], ◌∷◌, ◌++◌, refl, sym, ap, subst, ◌∙◌, inl, inr, arith}
use Rattle.std.specs.Prelude.{◌^◌, AllPairs, Option, None, Some}
use Rattle.std.specs.List.{flat_map, range_with_len}
use Rattle.std.specs.Option.{is_some}
use Rattle.std.proofs.lemmas.Bool.{cases_eq, cases_lt, ne_eqb, false≢true}
use Rattle.pm_types.specs.declared.page_id.PageId.{PageId}
use Rattle.pm_types.specs.declared.page_id.Link.{Link}
use Rattle.pm_types.specs.Ids.{page_id, link}
use Rattle.pm_data.specs.declared.layout.TheConstants.{DATA_KIND}
use Rattle.pm_data.specs.Rows.{IsRow}
use Rattle.pm_data.specs.DataPages as data_page
use Rattle.pm_data.specs.DataPages.{row_at, slot_at, IsDataPage}
use Rattle.pm_data.proofs.RowsByItem.{live_item, get_or-rows_of, row_in_live}
use Rattle.pm_pages.specs.declared.row.Row.{Row}
use Rattle.pm_pages.specs.Rows.{Partition, page_at, page_count, kind_of, rows_from, rows_on, rows_of, row_of}
use Rattle.pm_pages.proofs.Quantified.{Holds, Each, each_join, first_pairs, later_pairs, all_of}
use Rattle.pm_pages.proofs.RowsFrom.{rows_on-data}

-- a page of another kind has no rows
pub no_rows : (id : PageId) (page : List ℕ) → kind_of page ≢ DATA_KIND → rows_on id page ≡ []
no_rows id page other = simp (ne_eqb (kind_of page) DATA_KIND other) refl

-- what holds of the row of each item holds of each row of a page
pub items_each : (P : Row → Type 0) (id : PageId) (from : ℕ) (items : List (Option (List ℕ))) → ((k : ℕ) (row : List ℕ) → row_at items k ≡ Some row → P (row_of (link id (from + k)) row)) → Each P (rows_from id from items)
items_each P id from [] each = tt
items_each P id from (None ∷ items) each = items_each P id (from + 1) items (λ k row live. let e : from + suc k ≡ from + 1 + k = omega arith in subst (λ n. P (row_of (link id n) row)) e (each (suc k) row live))
items_each P id from (Some row ∷ items) each = (
  let e : from + 0 ≡ from = omega arith in subst (λ n. P (row_of (link id n) row)) e (each 0 row refl),
  items_each P id (from + 1) items (λ k row live. let e : from + suc k ≡ from + 1 + k = omega arith in subst (λ n. P (row_of (link id n) row)) e (each (suc k) row live)),
)

-- what holds of the rows of each page holds of all
pub pages_each : (P : Row → Type 0) (f : ℕ → List Row) (start n : ℕ) → ((j : ℕ) → start ≤ j → j < start + n → Each P (f j)) → Each P (flat_map f (range_with_len start n))
pages_each P f start zero each = tt
pages_each P f start (suc n) each = each_join P (f start) (flat_map f (range_with_len (start + 1) n)) (each start (omega arith) (omega arith)) (pages_each P f (start + 1) n (λ j low high. each j (omega (arith, low)) (omega (arith, high))))

-- what holds of the row of each item of a data page holds of all its rows
on_each : (P : Row → Type 0) (id : PageId) (page : List ℕ) → ((k : ℕ) (row : List ℕ) → kind_of page ≡ DATA_KIND → row_at (data_page.rows_of page) k ≡ Some row → P (row_of (link id k) row)) → Each P (rows_on id page)
on_each P id page each = elim (cases_eq (kind_of page) DATA_KIND) [
  | inl is ↦ subst (Each P) (sym (rows_on-data id page is))
      (items_each P id 0 (data_page.rows_of page) (λ k row live. let e : k ≡ 0 + k = omega arith in subst (λ n. P (row_of (link id n) row)) e (each k row is live)))
  | inr ne ↦ subst (Each P) (sym (no_rows id page ne)) tt
]

-- what holds of the row of each item of each data page holds of all rows
pub rows_each : (P : Row → Type 0) (part : ℕ) (pages : Partition) → ((j k : ℕ) (row : List ℕ) → j < page_count pages → kind_of (page_at pages j) ≡ DATA_KIND → row_at (data_page.rows_of (page_at pages j)) k ≡ Some row → P (row_of (link (page_id part j) k) row)) → Each P (rows_of part pages)
rows_each P part pages each = pages_each P (λ j. rows_on (page_id part j) (page_at pages j)) 0 (page_count pages) (λ j low high. on_each P (page_id part j) (page_at pages j) (λ k row is live. each j k row (omega (arith, high)) is live))

-- where a row of the partition stands
pub record StandsAt (part : ℕ) (pages : Partition) (row : Row) : Type 0 where
  pub at : ℕ
  pub item : ℕ
  pub bytes : List ℕ
  pub is : row ≡ row_of (link (page_id part at) item) bytes
  pub below : at < page_count pages
  pub kind : kind_of (page_at pages at) ≡ DATA_KIND
  pub live : row_at (data_page.rows_of (page_at pages at)) item ≡ Some bytes

pub all_stand : (part : ℕ) (pages : Partition) → Each (StandsAt part pages) (rows_of part pages)
all_stand part pages = rows_each (StandsAt part pages) part pages (λ j k bytes lt kind live. record { at = j; item = k; bytes = bytes; is = refl; below = lt; kind = kind; live = live })

-- the bytes of an item of a page are a row
pub live_row : (page : List ℕ) (item : ℕ) (bytes : List ℕ) → IsDataPage page → row_at (data_page.rows_of page) item ≡ Some bytes → IsRow bytes
live_row page item bytes is live =
    let there = live_item page item (ap is_some live) in
    elim (is.rows.each item there.0) [
      | inl empty ↦ absurd (false≢true (sym there.1 ∙ empty))
      | inr holds ↦ (let same = sym (get_or-rows_of page item None there.0 ∙ row_in_live page (slot_at page item) there.1) ∙ live in subst IsRow (cc same) holds.row)
    ]

any_left : {A : Type 0} (P : A → Type 0) (xs ys : List A) → Holds P xs → Holds P (xs ++ ys)
any_left P [] ys any = absurd any
any_left P (x ∷ xs) ys any = elim any [ inl here ↦ inl here | inr later ↦ inr (any_left P xs ys later) ]

any_right : {A : Type 0} (P : A → Type 0) (xs ys : List A) → Holds P ys → Holds P (xs ++ ys)
any_right P [] ys any = any
any_right P (x ∷ xs) ys any = inr (any_right P xs ys any)

-- what one of some pages has, all of them have
any_in : {A : Type 0} (P : A → Type 0) (f : ℕ → List A) (from n i : ℕ) → from ≤ i → i < from + n → Holds P (f i) → Holds P (flat_map f (range_with_len from n))
any_in P f from zero i low high any = absurd (omega (arith, low, high))
any_in P f from (suc n) i low high any = elim (cases_eq i from) [
  | inl here ↦ any_left P (f from) (flat_map f (range_with_len (from + 1) n)) (subst (λ k. Holds P (f k)) here any)
  | inr other ↦ any_right P (f from) (flat_map f (range_with_len (from + 1) n)) (any_in P f (from + 1) n i (le_other i from low other) (omega (arith, high)) any)
]
  where
    le_other : (i from : ℕ) → from ≤ i → (i ≡ from → ⊥) → from + 1 ≤ i
    le_other i from low other = elim (cases_lt from i) [ inl lt ↦ omega (arith, lt) | inr ge ↦ absurd (other (omega (arith, ge, low))) ]

-- the row of an item of a page is one of its rows
any_item : (P : Row → Type 0) (id : PageId) (row : List ℕ) (items : List (Option (List ℕ))) (from k : ℕ) → row_at items k ≡ Some row → P (row_of (link id (from + k)) row) → Holds P (rows_from id from items)
any_item P id row [] from k live has = absurd (cc live)
any_item P id row (None ∷ items) from zero live has = absurd (cc live)
any_item P id row (None ∷ items) from (suc k) live has = any_item P id row items (from + 1) k live (let e : from + suc k ≡ from + 1 + k = omega arith in subst (λ n. P (row_of (link id n) row)) e has)
any_item P id row (Some here ∷ items) from zero live has =
    let same : row ≡ here = cc live in
    let e : from + 0 ≡ from = omega arith in
    inl (subst (λ (r : List ℕ). P (row_of (link id from) r)) same (subst (λ n. P (row_of (link id n) row)) e has))
any_item P id row (Some here ∷ items) from (suc k) live has = inr (any_item P id row items (from + 1) k live (let e : from + suc k ≡ from + 1 + k = omega arith in subst (λ n. P (row_of (link id n) row)) e has))

-- the row of an item of a data page of the partition is one of its rows
pub row_stands : (P : Row → Type 0) (part : ℕ) (pages : Partition) (i item : ℕ) (row : List ℕ) → i < page_count pages → kind_of (page_at pages i) ≡ DATA_KIND → row_at (data_page.rows_of (page_at pages i)) item ≡ Some row → P (row_of (link (page_id part i) item) row) → Holds P (rows_of part pages)
row_stands P part pages i item row lt kind live has =
    let id = page_id part i in
    let zero_more : item ≡ 0 + item = omega arith in
    let on = subst (Holds P) (sym (rows_on-data id (page_at pages i) kind)) (any_item P id row (data_page.rows_of (page_at pages i)) 0 item live (subst (λ n. P (row_of (link id n) row)) zero_more has)) in
    any_in P (λ j. rows_on (page_id part j) (page_at pages j)) 0 (page_count pages) i (omega arith) (omega (arith, lt)) on

-- links of one name are of one page and one item
pub same_name : (part j k at item : ℕ) → part < 2 ^ 16 → j < 2 ^ 32 → at < 2 ^ 32 → link (page_id part j) k ≡ link (page_id part at) item → (j ≡ at) × (k ≡ item)
same_name part j k at item part_fits j_fits at_fits same =
    let word : k * 2 ^ 56 + (2 ^ 48 + part * 2 ^ 32 + j) % 2 ^ 56 ≡ item * 2 ^ 56 + (2 ^ 48 + part * 2 ^ 32 + at) % 2 ^ 56 = ap (λ (l : Link). l.0) same in
    (omega (arith, word, part_fits, j_fits, at_fits), omega (arith, word, part_fits, j_fits, at_fits))

abbrev pub HaveOtherLinks : Row → Row → Type 0
HaveOtherLinks a b = a.link ≢ b.link

pairs_cons : {A : Type 0} (R : A → A → Type 0) (x : A) (xs : List A) → Each (R x) xs → AllPairs R xs → AllPairs R (x ∷ xs)
pairs_cons R x xs each pairs zero zero d lt short = absurd (omega (arith, lt))
pairs_cons R x xs each pairs zero (suc j) d lt short = all_of (R x) xs each j d (omega (arith, short))
pairs_cons R x xs each pairs (suc i) zero d lt short = absurd (omega (arith, lt))
pairs_cons R x xs each pairs (suc i) (suc j) d lt short = pairs i j d (omega (arith, lt)) (omega (arith, short))

pairs_join : {A : Type 0} (R : A → A → Type 0) (xs ys : List A) → Each (λ x. Each (R x) ys) xs → AllPairs R xs → AllPairs R ys → AllPairs R (xs ++ ys)
pairs_join R [] ys across left right = right
pairs_join R (x ∷ xs) ys across left right = pairs_cons R x (xs ++ ys) (each_join (R x) xs ys (first_pairs R x xs left) across.0) (pairs_join R xs ys across.1 (later_pairs R x xs left) right)

-- no two rows of a page have one link
items_apart : (part at from : ℕ) (items : List (Option (List ℕ))) → part < 2 ^ 16 → at < 2 ^ 32 → AllPairs HaveOtherLinks (rows_from (page_id part at) from items)
items_apart part at from [] part_fits fits = λ i j d lt short. absurd (omega (arith, short))
items_apart part at from (None ∷ items) part_fits fits = items_apart part at (from + 1) items part_fits fits
items_apart part at from (Some row ∷ items) part_fits fits =
    let id = page_id part at in
    pairs_cons HaveOtherLinks (row_of (link id from) row) (rows_from id (from + 1) items)
    (items_each (HaveOtherLinks (row_of (link id from) row)) id (from + 1) items (λ k other live same. omega (arith, (same_name part at from at (from + 1 + k) part_fits fits fits same).1)))
    (items_apart part at (from + 1) items part_fits fits)

page_apart : (part at : ℕ) (page : List ℕ) → part < 2 ^ 16 → at < 2 ^ 32 → AllPairs HaveOtherLinks (rows_on (page_id part at) page)
page_apart part at page part_fits fits = elim (cases_eq (kind_of page) DATA_KIND) [
  | inl is ↦ subst (AllPairs HaveOtherLinks) (sym (rows_on-data (page_id part at) page is)) (items_apart part at 0 (data_page.rows_of page) part_fits fits)
  | inr ne ↦ subst (AllPairs HaveOtherLinks) (sym (no_rows (page_id part at) page ne)) (λ i j d lt short. absurd (omega (arith, short)))
]

-- nor have those of some pages
pages_apart : (part : ℕ) (page : ℕ → List ℕ) (start n : ℕ) → part < 2 ^ 16 → start + n ≤ 2 ^ 32 → AllPairs HaveOtherLinks (flat_map (λ j. rows_on (page_id part j) (page j)) (range_with_len start n))
pages_apart part page start zero part_fits few = λ i j d lt short. absurd (omega (arith, short))
pages_apart part page start (suc n) part_fits few =
    let f : ℕ → List Row = λ j. rows_on (page_id part j) (page j) in
    let later = flat_map f (range_with_len (start + 1) n) in
    pairs_join HaveOtherLinks (f start) later
    (on_each (λ a. Each (HaveOtherLinks a) later) (page_id part start) (page start) (λ k row is live.
    pages_each (HaveOtherLinks (row_of (link (page_id part start) k) row)) f (start + 1) n (λ j low high.
    on_each (HaveOtherLinks (row_of (link (page_id part start) k) row)) (page_id part j) (page j) (λ m other is' live' same.
    omega (arith, low, (same_name part start k j m part_fits (omega (arith, few)) (omega (arith, few, high)) same).0)))))
    (page_apart part start (page start) part_fits (omega (arith, few)))
    (pages_apart part page (start + 1) n part_fits (omega (arith, few)))

-- no two rows of a partition have one link
pub links_once : (part : ℕ) (pages : Partition) → part < 2 ^ 16 → page_count pages ≤ 2 ^ 32 → AllPairs HaveOtherLinks (rows_of part pages)
links_once part pages part_fits few = pages_apart part (page_at pages) 0 (page_count pages) part_fits (omega (arith, few))
