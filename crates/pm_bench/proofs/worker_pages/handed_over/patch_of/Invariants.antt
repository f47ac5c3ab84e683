use Rattle.std.proofs.Common.{◌≡◌}
use Rattle.pm_bench.proofs.worker_pages.handed_over.patch_of.Given as goal

abbrev pub invariant-each : goal.invariant-each
invariant-each l = l.patch.page_size ≡ 1024
