pub mod Checkpoints
pub mod Dirty
pub mod Frames
pub mod Marked
pub mod Staying
pub mod Writes
