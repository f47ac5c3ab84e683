use Rattle.std.proofs.Common.{◌≡◌, ◌++◌}
use Rattle.pm_pages.specs.PageLists.{pages_in}
use Rattle.pm_pages.specs.Rows.{page_at}
use Rattle.pm_pages.specs.Chains.{reuse_next_of, walk, reuse_chain}
use Rattle.pm_pages.proofs.well_formed.chains.reuse_chain.Given as goal

-- the pages so far and those of the turns that are left are the chain
abbrev pub invariant-turns : goal.invariant-turns
invariant-turns l =
    l.chain.items ++ walk (λ i. reuse_next_of (page_at (pages_in l.pages) i)) l.turns l.at ≡ reuse_chain (pages_in l.pages)

abbrev pub decreases-turns : goal.decreases-turns
decreases-turns l = l.turns
