use Rattle.std.proofs.Common.{ℕ, ◌<◌}
use Rattle.pm_pages.specs.PageLists.{pages_in}
use Rattle.pm_pages.specs.Trees.{HasTree}
use Rattle.pm_pages.proofs.well_formed.forest.has_forest.Given as goal

-- each cache so far has its tree
abbrev pub invariant-caches : goal.invariant-caches
invariant-caches l = (k : ℕ) → k < l.cache → HasTree (pages_in l.pages) l.rows k
