pub mod AddedSpans
pub mod BlankPages
pub mod Changes
pub mod Coverages
pub mod FrontRanges
pub mod PageSizeBounds
pub mod Unchanged
