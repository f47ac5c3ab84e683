pub mod PageTable
pub mod Slots
