use Rattle.pm_pages.specs.Paged.{AllReadable}
use Rattle.pm_pages.specs.Plain.{plain_seen, ArePlain}
use Rattle.pm_bench.proofs.checkpoint_tests.put_records.expected.Given as goal

-- the next put may be done
abbrev pub invariant-puts : goal.invariant-puts
invariant-puts l = record { plain : ArePlain l.plain; readable : AllReadable (plain_seen l.plain) }
