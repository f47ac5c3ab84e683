pub mod Gaps
pub mod Lookups
pub mod Probes
pub mod Rows
