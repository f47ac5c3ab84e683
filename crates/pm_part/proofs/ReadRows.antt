-- Rows that stand on data pages are rows of the partition.
use Rattle.std.proofs.Common.{◌≡◌, ℕ, ◌<◌, List, Some, refl, sym, ap, ◌∙◌}
use Rattle.pm_data.specs.Rows.{row_value}
use Rattle.pm_data.specs.DataPages as data_page
use Rattle.pm_data.specs.DataPages.{row_at}
use Rattle.pm_pages.specs.Rows.{Partition, bytes_of, page_at, page_count, kind_of, rows_of}
use Rattle.pm_pages.proofs.PageReads.{page_at-below}
use Rattle.pm_pages.proofs.Quantified.{Holds}
use Rattle.pm_pages.proofs.RowPlaces.{row_stands}
use Rattle.pm_part.specs.Spots.{IsRowOn}
use Rattle.pm_part.proofs.KeyedRows.{HasValue}

-- a row of a page of the partition is one of its rows
pub row_is_there : (part : ℕ) (pages : Partition) (i item cache : ℕ) (key row page : List ℕ) → i < page_count pages → pages i ≡ Some page → IsRowOn page item cache key row → Holds (HasValue cache key (row_value row)) (rows_of part pages)
row_is_there part pages i item cache key row page lt here is =
    let at_is : page ≡ page_at pages i = sym (page_at-below pages i lt ∙ ap bytes_of here) in
    row_stands (HasValue cache key (row_value row)) part pages i item row lt (sym (ap kind_of at_is) ∙ is.kind) (sym (ap (λ (p : List ℕ). row_at (data_page.rows_of p) item) at_is) ∙ is.live) (record { has = record { cache_is = is.cache_is; key_is = is.key_is }; value_is = refl })
