pub mod Causes
pub mod DrawnLines
pub mod Lines
pub mod Listings
pub mod Verifying
