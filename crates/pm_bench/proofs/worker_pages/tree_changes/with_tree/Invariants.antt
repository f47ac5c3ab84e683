use Rattle.pm_pages.specs.Paged.{AllReadable}
use Rattle.pm_pages.specs.Plain.{plain_seen, ArePlain}
use Rattle.pm_bench.proofs.worker_pages.tree_changes.with_tree.Given as goal

abbrev pub invariant-keys : goal.invariant-keys
invariant-keys l = record { plain : ArePlain l.plain; readable : AllReadable (plain_seen l.plain) }
