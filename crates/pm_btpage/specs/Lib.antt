pub mod Finds
pub mod IndexPages
pub mod Stored
