-- Where a change left the bytes of a slot, the slot reads as before.
use Rattle.std.proofs.Common.{◌≡◌, ℕ, ◌+◌, ◌*◌, ◌<◌, ◌≤◌, List, length, arith}
use Rattle.pm_types.specs.Pages.{SameOutside}
use Rattle.pm_types.proofs.Unchanged.{u16_same}
use Rattle.pm_data.specs.DataPages.{slot_at}

-- a slot that no change covered
pub slot_same : (covered : ℕ → Type 0) (was now : List ℕ) (item : ℕ) → SameOutside covered was now → 32 + 4 * item + 4 ≤ length was → ((k : ℕ) → 32 + 4 * item ≤ k → k < 32 + 4 * item + 4 → covered k → ⊥) → slot_at now item ≡ slot_at was item
slot_same covered was now item outside fits away =
    let start = u16_same covered was now (32 + 4 * item) outside (omega arith) (λ k ge lt. away k ge (omega arith)) in
    let len = u16_same covered was now (32 + 4 * item + 2) outside (omega arith) (λ k ge lt. away k (omega arith) (omega arith)) in
    λ j. record { start = start j; len = len j }
