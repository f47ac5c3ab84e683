mod Chains
mod Emptying
mod Forcing
mod Joining
mod LaterStates
pub mod Linking
mod Merging
mod Appending
mod Opening
mod OperationBytes
mod RecordBytes
mod RecordLoop
mod Splits
mod Taking
