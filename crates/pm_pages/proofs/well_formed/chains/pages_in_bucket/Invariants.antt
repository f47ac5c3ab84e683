use Rattle.std.proofs.Common.{◌≡◌, ℕ, ◌<◌, false, length}
use Rattle.std.specs.List.{slice_index_or}
use Rattle.pm_pages.specs.PageLists.{pages_in}
use Rattle.pm_pages.specs.Rows.{page_at}
use Rattle.pm_pages.specs.Chains.{is_in_bucket}
use Rattle.pm_pages.proofs.well_formed.chains.pages_in_bucket.Given as goal

-- a flag for each page so far
abbrev pub invariant-pages : goal.invariant-pages
invariant-pages l = record {
  len : length l.flags.items ≡ l.i;
  each : (k : ℕ) → k < l.i → slice_index_or l.flags.items k false ≡ is_in_bucket l.bucket (page_at (pages_in l.pages) k);
}
