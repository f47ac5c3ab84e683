use Rattle.std.proofs.Common.{drop}
use Rattle.std.specs.Prelude.{◌↔◌}
use Rattle.pm_pages.specs.PageLists.{pages_in}
use Rattle.pm_pages.specs.Rows.{page_at}
use Rattle.pm_pages.specs.Chains.{before_of, NamesBefore}
use Rattle.pm_pages.proofs.well_formed.chains.name_before.Given as goal

-- the pages that are left name those before exactly where all do
abbrev pub invariant-each : goal.invariant-each
invariant-each l =
    NamesBefore (λ i. before_of (page_at (pages_in l.pages) i)) l.last (drop l.i-index l.chain)
    ↔ NamesBefore (λ i. before_of (page_at (pages_in l.pages) i)) 0 l.chain
