pub mod DataPages
pub mod Rows
pub mod Removal
pub mod Following
