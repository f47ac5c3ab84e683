use Rattle.std.proofs.Common.{ℕ, ◌<◌}
use Rattle.pm_pages.specs.PageLists.{pages_in}
use Rattle.pm_pages.specs.Chains.{HasChain}
use Rattle.pm_pages.proofs.well_formed.deciding.has_chains.Given as goal

-- each bucket so far has its chain
abbrev pub invariant-buckets : goal.invariant-buckets
invariant-buckets l = (k : ℕ) → k < l.bucket → HasChain (pages_in l.pages) k
