pub mod PartStates
pub mod Rebinding
