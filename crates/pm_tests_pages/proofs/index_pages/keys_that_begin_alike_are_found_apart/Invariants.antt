use Rattle.std.proofs.Common.{◌≡◌, length}
use Rattle.pm_btpage.specs.IndexPages.{IsIndexPage}
use Rattle.pm_tests_pages.proofs.index_pages.keys_that_begin_alike_are_found_apart.Given as goal

abbrev pub invariant-keys : goal.invariant-keys
invariant-keys g l = record { page : IsIndexPage l.page; size : l.patch.page_size ≡ length l.page }
