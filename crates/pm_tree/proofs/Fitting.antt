-- Where a key stands among rising items, by its neighbours.
use Rattle.std.proofs.Common.{ℕ, ◌-◌, ◌<◌, ◌≤◌, List, length, arith}
use Rattle.pm_btpage.specs.IndexPages.{Item, IsBelow, IsRising, key_in}
use Rattle.pm_btpage.proofs.Sought.{below_up_to, above_from}

-- the item before is below
pub all_below : (items : List Item) (key : List ℕ) (i : ℕ) → IsRising items → i ≤ length items → 0 < i → IsBelow (key_in items (i - 1)) key → (j : ℕ) → j < i → IsBelow (key_in items j) key
all_below items key i rising le some below j lt = below_up_to items key (i - 1) rising (omega (arith, le, some)) below j (omega (arith, lt))

-- item i is above
pub all_above : (items : List Item) (key : List ℕ) (i : ℕ) → IsRising items → IsBelow key (key_in items i) → (j : ℕ) → i ≤ j → j < length items → IsBelow key (key_in items j)
all_above items key i rising above j le lt = above_from items key i rising above j le lt
