pub mod Apart
pub mod Cuts
pub mod Joins
pub mod Lodging
pub mod Shells
pub mod Shown
pub mod Spans
pub mod Written
