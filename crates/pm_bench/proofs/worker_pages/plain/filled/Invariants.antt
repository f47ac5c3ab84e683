use Rattle.pm_pages.specs.Paged.{AllReadable}
use Rattle.pm_pages.specs.Plain.{plain_seen, ArePlain}
use Rattle.pm_bench.proofs.worker_pages.plain.filled.Given as goal

abbrev pub invariant-rows : goal.invariant-rows
invariant-rows l = record { plain : ArePlain l.plain; readable : AllReadable (plain_seen l.plain) }
