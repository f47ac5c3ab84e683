use Rattle.std.proofs.Common.{◌≤◌}
use Rattle.pm_pages.specs.Paged.{Paged, AllReadable}
use Rattle.pm_part.specs.Reads.{ReadsPages}
use Rattle.pm_part.specs.PairReads.{AppendsPairs, HadLeaves}
use Rattle.pm_part.proofs.pairs.append_leaves.Given as goal

abbrev pub invariant-leaves : goal.invariant-leaves
invariant-leaves g l = record {
  kept : g.P.Pages.kept l.fn.pages l.pages;
  reads : ReadsPages g.P.Pages.tells (g.P.Pages.seen l.fn.pages) (g.P.Pages.seen l.pages);
  readable : AllReadable (g.P.Pages.seen l.pages);
  some : 1 ≤ l.at;
  leaves : (start : Paged) → ReadsPages g.P.Pages.tells start (g.P.Pages.seen l.fn.pages) → AppendsPairs l.fn.pairs.items l.pairs.items (HadLeaves g.P.Pages.tells start l.count l.cache l.first l._turn l.from l.at);
}
