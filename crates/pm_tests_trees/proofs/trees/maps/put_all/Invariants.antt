use Rattle.pm_pages.specs.Paged.{AllReadable}
use Rattle.pm_pages.specs.Plain.{plain_seen, ArePlain}
use Rattle.pm_tests_trees.proofs.trees.maps.put_all.Given as goal

abbrev pub invariant-keys : goal.invariant-keys
invariant-keys g l = record { plain : ArePlain l.pages; readable : AllReadable (plain_seen l.pages) }
