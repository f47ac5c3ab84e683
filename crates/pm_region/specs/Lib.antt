pub mod Lease
pub mod LeaseLends
pub mod Memory
pub mod Region
pub mod Spans
