use Rattle.pm_pages.specs.Paged.{AllReadable}
use Rattle.pm_pages.specs.Plain.{plain_seen, ArePlain}
use Rattle.pm_tests_trees.proofs.parts.filling.fill.Given as goal

abbrev pub invariant-rows : goal.invariant-rows
invariant-rows g l = record { plain : ArePlain l.pages; readable : AllReadable (plain_seen l.pages) }
