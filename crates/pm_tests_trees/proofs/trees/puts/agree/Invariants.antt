use Rattle.pm_pages.specs.Paged.{AllReadable}
use Rattle.pm_pages.specs.Plain.{plain_seen, ArePlain}
use Rattle.pm_tests_trees.proofs.trees.puts.agree.Given as goal

abbrev pub invariant-thousands : goal.invariant-thousands
invariant-thousands g l = record { plain : ArePlain l.pages; readable : AllReadable (plain_seen l.pages) }
