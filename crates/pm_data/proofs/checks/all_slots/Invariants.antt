use Rattle.std.proofs.Common.{◌≡◌, ℕ, ◌<◌, get_or, length}
use Rattle.pm_data.specs.DataPages.{slot_at}
use Rattle.pm_data.proofs.checks.all_slots.Given as goal

abbrev pub invariant-items : goal.invariant-items
invariant-items l = record {
  size : length l.slots ≡ 254;
  read : (k : ℕ) → k < l.item → get_or l.slots k (record { start = 0; len = 0 }) ≡ slot_at l.page k;
}
