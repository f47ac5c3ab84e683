pub mod Batches
pub mod Counts
pub mod Eval
pub mod Orders
pub mod Partitions
pub mod ReplyLists
