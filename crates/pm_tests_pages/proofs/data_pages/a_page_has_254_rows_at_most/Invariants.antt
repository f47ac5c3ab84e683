use Rattle.std.proofs.Common.{◌≡◌, length}
use Rattle.pm_data.specs.DataPages.{IsDataPage}
use Rattle.pm_tests_pages.proofs.data_pages.a_page_has_254_rows_at_most.Given as goal

abbrev pub invariant-rows : goal.invariant-rows
invariant-rows g l = record {
  page : IsDataPage l.page;
  size : l.patch.page_size ≡ length l.page;
}
