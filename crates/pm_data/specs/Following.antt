-- Slots whose rows follow one another.
use Rattle.std.specs.Prelude.{◌≡◌, ℕ, ◌⊎◌, true, false, List, [], ◌∷◌}
use Rattle.pm_data.specs.declared.slots.Slot.{Slot}
use Rattle.pm_data.specs.DataPages.{is_empty, end_of}

-- from `at` on each row begins where the one before it ends, up to `end`; empty slots don't count
abbrev pub AreConsecutive : ℕ → ℕ → List Slot → Type 0
AreConsecutive at end [] = at ≡ end
AreConsecutive at end (slot ∷ slots) =
    ((is_empty slot ≡ true) × AreConsecutive at end slots)
    ⊎ ((is_empty slot ≡ false) × (slot.start ≡ at) × AreConsecutive (end_of slot) end slots)
