pub mod Defaults
pub mod LastCounts
pub mod TextValues
