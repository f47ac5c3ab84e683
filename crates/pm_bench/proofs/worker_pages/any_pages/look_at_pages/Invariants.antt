use Rattle.std.proofs.Common.{◌+◌, ◌≤◌}
use Rattle.pm_types.specs.declared.limits.TheConstants.{OP_PAGES}
use Rattle.pm_bench.proofs.worker_pages.any_pages.look_at_pages.Given as goal

-- as many more may be asked for as are left
abbrev pub invariant-pages : goal.invariant-pages
invariant-pages g l = record {
  ready : g.P.Pages.ready l.pages;
  room : OP_PAGES ≤ (g.P.Pages.seen l.pages).spare + l.index;
}
