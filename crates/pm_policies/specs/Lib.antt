pub mod Dials
pub mod Draws
pub mod Segments
pub mod Stamps
pub mod Tournaments
