-- The link of each row of a partition may stand in a leaf.
use Rattle.std.proofs.Common.{◌≡◌, ◌≢◌, ℕ, zero, suc, ◌+◌, ◌*◌, ◌%◌, ◌<◌, ◌≤◌, List, sym, ap, ◌∙◌, arith}
use Rattle.std.specs.Prelude.{◌^◌}
use Rattle.pm_types.specs.Ids.{page_id, link}
use Rattle.pm_btpage.specs.Stored.{IsLink}
use Rattle.pm_data.specs.declared.layout.TheConstants.{DATA_KIND}
use Rattle.pm_pages.specs.declared.row.Row.{Row}
use Rattle.pm_pages.specs.Rows.{Partition, page_at, page_count, kind_of, rows_of}
use Rattle.pm_free.specs.Placed.{HasOneMore}
use Rattle.pm_pages.proofs.RowPlaces.{rows_each}
use Rattle.pm_pages.proofs.Quantified.{Each}
use Rattle.pm_part.proofs.RowKeys.{each_one}

link_named : (part at item : ℕ) → part < 2 ^ 16 → at < 2 ^ 32 → 1 ≤ at → IsLink part (link (page_id part at) item).0
link_named part at item part_fits at_fits some =
    let page : (item * 2 ^ 56 + (2 ^ 48 + part * 2 ^ 32 + at) % 2 ^ 56) % 2 ^ 56 ≡ 2 ^ 48 + part * 2 ^ 32 + at = omega (arith, part_fits, at_fits) in
    let index : (item * 2 ^ 56 + (2 ^ 48 + part * 2 ^ 32 + at) % 2 ^ 56) % 2 ^ 56 % 2 ^ 32 ≡ at = omega (arith, page, part_fits, at_fits) in
    record { name = (λ k. record { 0 = page k }) ∙ ap (page_id part) (sym index); index = omega (arith, index, some) }

links_named : (part : ℕ) (pages : Partition) → part < 2 ^ 16 → page_count pages ≤ 2 ^ 32 → kind_of (page_at pages 0) ≢ DATA_KIND → Each (λ (r : Row). IsLink part r.link.0) (rows_of part pages)
links_named part pages part_fits few first = rows_each (λ (r : Row). IsLink part r.link.0) part pages (λ j k row lt kind there. link_named part j k part_fits (omega (arith, lt, few)) (some j kind))
  where
    some : (j : ℕ) → kind_of (page_at pages j) ≡ DATA_KIND → 1 ≤ j
    some zero kind = absurd (first kind)
    some (suc i) kind = omega arith

pub row_linked : (part : ℕ) (pages : Partition) (less : List Row) (row : Row) → HasOneMore less (rows_of part pages) row → part < 2 ^ 16 → page_count pages ≤ 2 ^ 32 → kind_of (page_at pages 0) ≢ DATA_KIND → IsLink part row.link.0
row_linked part pages less row one part_fits few first = each_one (λ (r : Row). IsLink part r.link.0) less (rows_of part pages) row one (links_named part pages part_fits few first)
