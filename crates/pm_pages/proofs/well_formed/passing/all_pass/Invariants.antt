use Rattle.std.proofs.Common.{ℕ, ◌<◌}
use Rattle.std.specs.Prelude.{IsSomeAnd}
use Rattle.pm_types.specs.Ids.{page_id}
use Rattle.pm_pages.specs.PageLists.{pages_in}
use Rattle.pm_pages.specs.Passes.{Passes}
use Rattle.pm_pages.proofs.well_formed.passing.all_pass.Given as goal

-- the pages so far pass
abbrev pub invariant-pages : goal.invariant-pages
invariant-pages l = (k : ℕ) → k < l.i → IsSomeAnd (pages_in l.pages k) (Passes l.shape.page_size l.shape.max_rows (page_id l.part k))
