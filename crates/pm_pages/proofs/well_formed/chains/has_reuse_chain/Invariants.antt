use Rattle.std.proofs.Common.{◌≡◌, ℕ, ◌<◌}
use Rattle.std.specs.List.{slice_index_or}
use Rattle.pm_meta.specs.declared.layout.TheConstants.{REUSE_KIND}
use Rattle.pm_pages.specs.PageLists.{pages_in}
use Rattle.pm_pages.specs.Rows.{page_at, kind_of}
use Rattle.pm_pages.proofs.well_formed.chains.has_reuse_chain.Given as goal

-- the pages so far are reuse pages
abbrev pub invariant-each : goal.invariant-each
invariant-each l = (k d : ℕ) → k < l.i-index → kind_of (page_at (pages_in l.pages) (slice_index_or l.chain k d)) ≡ REUSE_KIND
