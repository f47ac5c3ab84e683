use Rattle.pm_pages.specs.Paged.{AllReadable}
use Rattle.pm_pages.specs.Plain.{plain_seen, ArePlain}
use Rattle.pm_stripe.specs.Idle.{IsIdle}
use Rattle.pm_bench.proofs.worker_pages.trees_agree.changes_agree.Given as goal

-- both sides may do the next step
abbrev pub invariant-changes : goal.invariant-changes
invariant-changes g l = record {
  idle : IsIdle g.R.Device.tells g.R.Device.history g.R.Device.state l.pages;
  plain : ArePlain l.plain;
  readable : AllReadable (plain_seen l.plain);
}
