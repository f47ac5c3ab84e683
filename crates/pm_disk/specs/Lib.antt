pub mod Faults
pub mod Files
pub mod Images
pub mod Lending
pub mod Moments
pub mod Names
pub mod States
pub mod Worlds
