-- A link names one row of a partition.
use Rattle.std.proofs.Common.{◌≡◌, ℕ, ◌<◌, ◌≤◌, List, refl, sym, subst, ◌∙◌, arith}
use Rattle.std.specs.Prelude.{◌^◌, Some}
use Rattle.pm_types.specs.Ids.{page_id, link}
use Rattle.pm_data.specs.DataPages as data_page
use Rattle.pm_data.specs.DataPages.{row_at}
use Rattle.pm_pages.specs.declared.row.Row.{Row}
use Rattle.pm_pages.specs.Rows.{Partition, page_at, page_count, rows_of, row_of}
use Rattle.pm_pages.proofs.RowPlaces.{rows_each, same_name}
use Rattle.pm_free.specs.Placed.{HasOneMore}
use Rattle.pm_pages.proofs.Quantified.{Each, each_middle}

-- each row of this link is the row of this item
pub named : (part : ℕ) (pages : Partition) (at item : ℕ) (row : List ℕ) → part < 2 ^ 16 → page_count pages ≤ 2 ^ 32 → at < page_count pages → row_at (data_page.rows_of (page_at pages at)) item ≡ Some row → Each (λ (r : Row). r.link ≡ link (page_id part at) item → r ≡ row_of (link (page_id part at) item) row) (rows_of part pages)
named part pages at item row part_fits few below live = rows_each _ part pages (λ j k other lt kind there same.
    let one = same_name part j k at item part_fits (omega (arith, lt, few)) (omega (arith, below, few)) same in
    let there' : row_at (data_page.rows_of (page_at pages at)) item ≡ Some other = (λ i. row_at (data_page.rows_of (page_at pages (sym one.0 i))) (sym one.1 i)) ∙ there in
    let is : other ≡ row = cc in
    (λ i. row_of (same i) (is i)))

-- the row of a link that is one more is the row of its item
pub one_named : (part : ℕ) (pages : Partition) (at item : ℕ) (row other : List ℕ) (less : List Row) → part < 2 ^ 16 → page_count pages ≤ 2 ^ 32 → at < page_count pages → row_at (data_page.rows_of (page_at pages at)) item ≡ Some row → HasOneMore less (rows_of part pages) (row_of (link (page_id part at) item) other) → row_of (link (page_id part at) item) other ≡ row_of (link (page_id part at) item) row
one_named part pages at item row other less part_fits few below live one =
    let P : Row → Type 0 = λ r. r.link ≡ link (page_id part at) item → r ≡ row_of (link (page_id part at) item) row in
    each_middle P one.before (row_of (link (page_id part at) item) other) one.after (subst (Each P) one.more (named part pages at item row part_fits few below live)) refl

-- a row of this link is the row of its item
pub row_named : (part : ℕ) (pages : Partition) (at item : ℕ) (row : List ℕ) (was : Row) (less : List Row) → part < 2 ^ 16 → page_count pages ≤ 2 ^ 32 → at < page_count pages → row_at (data_page.rows_of (page_at pages at)) item ≡ Some row → HasOneMore less (rows_of part pages) was → was.link ≡ link (page_id part at) item → was ≡ row_of (link (page_id part at) item) row
row_named part pages at item row was less part_fits few below live one is =
    let P : Row → Type 0 = λ r. r.link ≡ link (page_id part at) item → r ≡ row_of (link (page_id part at) item) row in
    each_middle P one.before was one.after (subst (Each P) one.more (named part pages at item row part_fits few below live)) is
