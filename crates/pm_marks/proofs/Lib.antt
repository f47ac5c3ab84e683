pub mod FirstSlots
pub mod SlotMarks
pub mod SlotWrites
pub mod Writing
