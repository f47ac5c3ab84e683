pub mod FreshPages
pub mod Indexes
pub mod OneField
pub mod OffsetsApart
pub mod StoredPages
