-- What a removal does to the slots.
use Rattle.std.specs.Prelude.{◌≡◌, ℕ, ◌+◌, ◌-◌, ◌<◌, ◌≤◌, ◌&&◌, true, false, not, if◌then◌else◌, nat_lt, List}
use Rattle.pm_data.specs.declared.slots.Slot.{Slot}
use Rattle.pm_data.specs.DataPages.{slot_at, count_of, is_empty}

-- the slot of a row that moves up where it stands below the row that is gone
abbrev pub lifted : Slot → Slot → Slot
lifted gone slot =
    if not (is_empty slot) && nat_lt slot.start gone.start
    then record { start = slot.start + gone.len; len = slot.len }
    else slot

-- the slot of the item is empty, and the other of the first `count` follow their rows
pub record LeavesSlots (count item : ℕ) (was now : List ℕ) : Type 0 where
  pub gone : is_empty (slot_at now item) ≡ true
  pub others : (j : ℕ) → j < count → (j ≡ item → ⊥) → slot_at now j ≡ lifted (slot_at was item) (slot_at was j)

-- so many slots are left up to the last that has a row
pub record EndsAtLast (page : List ℕ) (kept : ℕ) : Type 0 where
  pub few : kept ≤ count_of page
  pub empty : (j : ℕ) → kept ≤ j → j < count_of page → is_empty (slot_at page j) ≡ true
  pub last : 1 ≤ kept → is_empty (slot_at page (kept - 1)) ≡ false
