pub mod InForce
pub mod MarkWrites
pub mod Slots
