use Rattle.pm_pages.specs.Paged.{AllReadable}
use Rattle.pm_pages.specs.Plain.{plain_seen, ArePlain}
use Rattle.pm_bench.proofs.operations.in_pages.Given as goal

abbrev pub invariant-operations : goal.invariant-operations
invariant-operations l = record { plain : ArePlain l.pages; readable : AllReadable (plain_seen l.pages) }
