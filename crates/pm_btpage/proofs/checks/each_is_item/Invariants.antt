use Rattle.std.proofs.Common.{ℕ, ◌<◌}
use Rattle.pm_btpage.specs.IndexPages.{IsItem}
use Rattle.pm_btpage.proofs.checks.each_is_item.Given as goal

abbrev pub invariant-items : goal.invariant-items
invariant-items l = (k : ℕ) → k < l.i → IsItem l.page k
