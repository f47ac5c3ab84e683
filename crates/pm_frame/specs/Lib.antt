pub mod Crc
pub mod Frames
pub mod Views
