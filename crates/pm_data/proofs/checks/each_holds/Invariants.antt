use Rattle.std.proofs.Common.{ℕ, ◌<◌}
use Rattle.pm_data.specs.DataPages.{slot_at, IsSound}
use Rattle.pm_data.proofs.checks.each_holds.Given as goal

abbrev pub invariant-items : goal.invariant-items
invariant-items l = (k : ℕ) → k < l.item → IsSound l.page (slot_at l.page k)
