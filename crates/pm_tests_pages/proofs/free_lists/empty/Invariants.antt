use Rattle.pm_pages.specs.Paged.{AllReadable}
use Rattle.pm_pages.specs.Plain.{plain_seen, ArePlain}
use Rattle.pm_tests_pages.proofs.free_lists.empty.Given as goal

abbrev pub invariant-rows : goal.invariant-rows
invariant-rows l = record { plain : ArePlain l.pages; readable : AllReadable (plain_seen l.pages) }
