pub mod Copies
pub mod Done
pub mod Jobs
pub mod Writes
pub mod Frames
pub mod Steps
pub mod Flushes
pub mod Seats
