use Rattle.std.proofs.Common.{◌≡◌, ◌++◌, drop}
use Rattle.pm_data.specs.DataPages as data_page
use Rattle.pm_pages.specs.Rows.{rows_from}
use Rattle.pm_pages.proofs.well_formed.rows.add_rows.Given as goal

-- the rows so far and those of the items that are left are all
abbrev pub invariant-items : goal.invariant-items
invariant-items l =
    l.rows.items ++ rows_from l.id l.item (drop l.item (data_page.rows_of l.page))
    ≡ l.initial.rows.items ++ rows_from l.id 0 (data_page.rows_of l.page)
