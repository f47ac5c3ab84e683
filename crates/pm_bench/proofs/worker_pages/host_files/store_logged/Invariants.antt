use Rattle.pm_disk.specs.States.{IsUsable, MayUseAllPages}
use Rattle.pm_bench.proofs.worker_pages.host_files.store_logged.Given as goal

-- all pages may be written
abbrev pub invariant-pages : goal.invariant-pages
invariant-pages g l = record {
  usable : IsUsable (g.W.Device.state l.writer);
  pages : MayUseAllPages (g.W.Device.state l.writer);
}
