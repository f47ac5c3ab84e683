use Rattle.pm_pages.specs.Paged.{AllReadable}
use Rattle.pm_pages.specs.Plain.{plain_seen, ArePlain}
use Rattle.pm_tests_trees.proofs.parts.maps.look_at_all_pairs.Given as goal

abbrev pub invariant-caches : goal.invariant-caches
invariant-caches g l = record { plain : ArePlain l.pages; readable : AllReadable (plain_seen l.pages) }
