pub mod OpenEngines
pub mod Rows
