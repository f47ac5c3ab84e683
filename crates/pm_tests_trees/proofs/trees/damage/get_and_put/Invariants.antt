use Rattle.pm_pages.specs.Paged.{AllReadable}
use Rattle.pm_pages.specs.Plain.{plain_seen, ArePlain}
use Rattle.pm_tests_trees.proofs.trees.damage.get_and_put.Given as goal

abbrev pub invariant-gets : goal.invariant-gets
invariant-gets g l = record { plain : ArePlain l.pages; readable : AllReadable (plain_seen l.pages) }

abbrev pub invariant-puts : goal.invariant-puts
invariant-puts g l = record { plain : ArePlain l.pages; readable : AllReadable (plain_seen l.pages) }
