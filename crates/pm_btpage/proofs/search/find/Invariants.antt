use Rattle.std.proofs.Common.{ℕ, ◌<◌, ◌≤◌, ◌-◌, length}
use Rattle.pm_btpage.specs.IndexPages.{items_of, IsBelow, key_in}
use Rattle.pm_btpage.proofs.search.find.Given as goal

abbrev pub invariant-halves : goal.invariant-halves
invariant-halves l = record {
  order : l.low ≤ l.high;
  inside : l.high ≤ length (items_of l.page);
  below : (j : ℕ) → j < l.low → IsBelow (key_in (items_of l.page) j) l.key;
  above : (j : ℕ) → l.high ≤ j → j < length (items_of l.page) → IsBelow l.key (key_in (items_of l.page) j);
}

abbrev pub decreases-halves : goal.decreases-halves
decreases-halves l = l.high - l.low
