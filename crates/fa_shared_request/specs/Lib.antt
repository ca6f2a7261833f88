pub mod Counts
pub mod Ops
pub mod PartCounts
pub mod SharedStore
pub mod Tallies
pub mod Waiting
