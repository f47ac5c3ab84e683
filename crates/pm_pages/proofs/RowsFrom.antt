-- The rows of a page from an item on are its row, if it has one, and those from the next item on.
use Rattle.std.proofs.Common.{◌≡◌, ℕ, suc, ◌+◌, ◌-◌, ◌<◌, ◌≤◌, List, [], ◌∷◌, ◌++◌, length, drop, append_assoc, refl, sym, ap, ◌∙◌, arith}
use Rattle.std.specs.Prelude.{Option}
use Rattle.std.proofs.lemmas.Bool.{eq-eqb}
use Rattle.std.proofs.lemmas.List.{drop_all, append-nil}
use Rattle.pm_types.specs.declared.page_id.PageId.{PageId}
use Rattle.std.specs.List.{flat_map, range_with_len}
use Rattle.pm_data.specs.declared.layout.TheConstants.{DATA_KIND}
use Rattle.pm_data.specs.DataPages as data_page
use Rattle.pm_pages.specs.declared.row.Row.{Row}
use Rattle.pm_pages.specs.Rows.{kind_of, rows_from, rows_on}

-- after the last item there is none
pub rows_from-end : (id : PageId) (items : List (Option (List ℕ))) (item : ℕ) → length items ≤ item → rows_from id item (drop item items) ≡ []
rows_from-end id items item le = ap (rows_from id item) (drop_all item items le)

pub rows_on-data : (id : PageId) (page : List ℕ) → kind_of page ≡ DATA_KIND → rows_on id page ≡ rows_from id 0 (data_page.rows_of page)
rows_on-data id page is = simp (eq-eqb (kind_of page) DATA_KIND is) refl

-- all rows are read where no item is left
pub all_read : (id : PageId) (page : List ℕ) (before rows : List Row) (item : ℕ) → rows ++ rows_from id item (drop item (data_page.rows_of page)) ≡ before ++ rows_from id 0 (data_page.rows_of page) → length (data_page.rows_of page) ≤ item → kind_of page ≡ DATA_KIND → rows ≡ before ++ rows_on id page
all_read id page before rows item all last is =
    sym (append-nil rows) ∙ ap (λ (t : List Row). rows ++ t) (sym (rows_from-end id (data_page.rows_of page) item last)) ∙ all ∙ ap (λ (t : List Row). before ++ t) (sym (rows_on-data id page is))

-- the numbers from one on, up to another, are the first and those after it
pub range_more : (i n : ℕ) → i < n → range_with_len i (n - i) ≡ i ∷ range_with_len (i + 1) (n - (i + 1))
range_more i n lt =
    let e : n - i ≡ suc (n - (i + 1)) = omega arith in
    ap (range_with_len i) e

-- the rows of one page more
pub one_page_more : (f : ℕ → List Row) (rows all : List Row) (i n : ℕ) → i < n → rows ++ flat_map f (range_with_len i (n - i)) ≡ all → (rows ++ f i) ++ flat_map f (range_with_len (i + 1) (n - (i + 1))) ≡ all
one_page_more f rows all i n lt is =
    append_assoc rows (f i) _ ∙ ap (λ (is : List ℕ). rows ++ flat_map f is) (sym (range_more i n lt)) ∙ is
