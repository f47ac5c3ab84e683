use Rattle.pm_pages.specs.Paged.{Paged, AllReadable}
use Rattle.pm_part.specs.Reads.{ReadsPages}
use Rattle.pm_part.specs.PairReads.{LeadsDown}
use Rattle.pm_part.proofs.pairs.first_leaf.Given as goal

abbrev pub invariant-levels : goal.invariant-levels
invariant-levels g l = record {
  kept : g.P.Pages.kept l.fn.pages l.pages;
  reads : ReadsPages g.P.Pages.tells (g.P.Pages.seen l.fn.pages) (g.P.Pages.seen l.pages);
  readable : AllReadable (g.P.Pages.seen l.pages);
  leads : (start : Paged) → ReadsPages g.P.Pages.tells start (g.P.Pages.seen l.fn.pages) → LeadsDown g.P.Pages.tells start l.count l.root l._level l.from l.at;
}
