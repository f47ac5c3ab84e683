pub mod Draws
pub mod Halves
pub mod Orders
pub mod Rings
pub mod Sides
pub mod Trees
