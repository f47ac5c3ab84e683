use Rattle.std.proofs.Common.{ℕ, ◌<◌}
use Rattle.pm_btpage.specs.IndexPages.{items_of, word_in}
use Rattle.pm_btpage.specs.Stored.{IsWord}
use Rattle.pm_btpage.proofs.checks.each_word_is.Given as goal

abbrev pub invariant-items : goal.invariant-items
invariant-items l = (k : ℕ) → k < l.i → IsWord l.leaf l.part (word_in (items_of l.page) k)
