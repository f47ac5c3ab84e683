use Rattle.pm_part.specs.Commands.{IsPartCmd}
use Rattle.pm_pages.specs.Paged.{AllReadable}
use Rattle.pm_pages.specs.Plain.{plain_seen, ArePlain}
use Rattle.pm_bench.specs.declared.worker_pages.commands.TheConstants.{SHAPE}
use Rattle.pm_bench.proofs.worker_pages.failing.fail_everywhere.Given as goal

abbrev pub invariant-places : goal.invariant-places
invariant-places g l = record {
  plain : ArePlain l.plain;
  readable : AllReadable (plain_seen l.plain);
  cmd : IsPartCmd SHAPE 0 l.cmd;
}
