use Rattle.std.proofs.Common.{◌≡◌, ◌++◌, ◌-◌}
use Rattle.std.specs.List.{flat_map, range_with_len}
use Rattle.pm_types.specs.Ids.{page_id}
use Rattle.pm_pages.specs.PageLists.{pages_in}
use Rattle.pm_pages.specs.Rows.{page_at, page_count, rows_on, rows_of}
use Rattle.pm_pages.proofs.well_formed.rows.rows_of.Given as goal

-- the rows so far and those of the pages that are left are all
abbrev pub invariant-pages : goal.invariant-pages
invariant-pages l =
    l.rows.items ++ flat_map (λ i. rows_on (page_id l.part i) (page_at (pages_in l.pages) i)) (range_with_len l.i (page_count (pages_in l.pages) - l.i))
    ≡ rows_of l.part (pages_in l.pages)
