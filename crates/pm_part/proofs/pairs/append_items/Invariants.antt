use Rattle.std.proofs.Common.{take}
use Rattle.pm_btpage.specs.IndexPages.{items_of}
use Rattle.pm_pages.specs.Paged.{Paged, AllReadable}
use Rattle.pm_part.specs.Reads.{ReadsPages, HasBudget}
use Rattle.pm_part.specs.PairReads.{AppendsPairs, HadPairs}
use Rattle.pm_part.proofs.pairs.append_items.Given as goal

abbrev pub invariant-items : goal.invariant-items
invariant-items g l = record {
  kept : g.P.Pages.kept l.fn.pages l.pages;
  reads : ReadsPages g.P.Pages.tells (g.P.Pages.seen l.fn.pages) (g.P.Pages.seen l.pages);
  readable : AllReadable (g.P.Pages.seen l.pages);
  budget : HasBudget (g.P.Pages.seen l.pages) l.asked;
  pairs : (start : Paged) → ReadsPages g.P.Pages.tells start (g.P.Pages.seen l.fn.pages) → AppendsPairs l.fn.pairs.items l.pairs.items (HadPairs g.P.Pages.tells start l.count l.cache (take l.i (items_of l.page)));
}
