use Rattle.std.proofs.Common.{◌≡◌, ℕ, ◌<◌, false}
use Rattle.pm_data.specs.DataPages.{slot_at, is_empty}
use Rattle.pm_data.proofs.items.free_item.Given as goal

abbrev pub invariant-items : goal.invariant-items
invariant-items l = (k : ℕ) → k < l.item → is_empty (slot_at l.page k) ≡ false
