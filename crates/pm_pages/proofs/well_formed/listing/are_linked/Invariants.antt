use Rattle.std.proofs.Common.{drop}
use Rattle.std.specs.Prelude.{◌↔◌}
use Rattle.pm_pages.specs.PageLists.{pages_in}
use Rattle.pm_pages.specs.Trees.{AreLinked}
use Rattle.pm_pages.proofs.well_formed.listing.are_linked.Given as goal

-- the leaves that are left are linked exactly where all are
abbrev pub invariant-leaves : goal.invariant-leaves
invariant-leaves l = AreLinked (pages_in l.pages) (drop l.i l.leaves) ↔ AreLinked (pages_in l.pages) l.leaves
