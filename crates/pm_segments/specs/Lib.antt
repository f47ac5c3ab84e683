pub mod Appends
pub mod Drops
pub mod Ends
pub mod Read
pub mod Scans
