use Rattle.pm_pages.specs.Paged.{AllReadable}
use Rattle.pm_pages.specs.Plain.{plain_seen, ArePlain}
use Rattle.pm_tests_trees.proofs.trees.removals.steps.Given as goal

abbrev pub invariant-steps : goal.invariant-steps
invariant-steps g l = record { plain : ArePlain l.pages; readable : AllReadable (plain_seen l.pages) }
