use Rattle.std.proofs.Common.{ℕ, ◌+◌, ◌<◌}
use Rattle.pm_btpage.specs.IndexPages.{item_at, IsBelow}
use Rattle.pm_btpage.proofs.checks.rise.Given as goal

abbrev pub invariant-pairs : goal.invariant-pairs
invariant-pairs l = (k : ℕ) → k + 1 < l.i → IsBelow (item_at l.page k).key (item_at l.page (k + 1)).key
