pub mod NotedChanges
pub mod OneRound
pub mod OpenStores
pub mod SharedSeats
