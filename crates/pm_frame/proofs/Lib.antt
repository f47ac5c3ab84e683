pub mod Blocks
pub mod Bytes
pub mod Division
pub mod FrameAt
pub mod FrameRead
pub mod HeadBytes
pub mod TableRule
