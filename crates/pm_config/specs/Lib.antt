pub mod Configs
pub mod Differences
pub mod Limits
pub mod Names
pub mod Objects
pub mod Stored
