use Rattle.pm_disk.specs.States.{IsUsable}
use Rattle.pm_pages.specs.Paged.{AllReadable}
use Rattle.pm_pages.specs.Plain.{plain_seen, ArePlain}
use Rattle.pm_bench.proofs.worker_pages.trees.rounds.Given as goal

-- the next round may begin
abbrev pub invariant-rounds : goal.invariant-rounds
invariant-rounds g l = record {
  usable : IsUsable (g.H.Device.state l.host);
  plain : ArePlain l.plain;
  readable : AllReadable (plain_seen l.plain);
}
