use Rattle.std.proofs.Common.{◌≡◌, ℕ, ◌<◌, ◌≤◌, true}
use Rattle.pm_data.specs.DataPages.{slot_at, is_empty}
use Rattle.pm_data.proofs.removal.kept_slots.Given as goal

abbrev pub invariant-end : goal.invariant-end
invariant-end l = record {
  few : l.kept ≤ l.count;
  empty : (j : ℕ) → l.kept ≤ j → j < l.count → is_empty (slot_at l.page j) ≡ true;
}

abbrev pub decreases-end : goal.decreases-end
decreases-end l = l.kept
