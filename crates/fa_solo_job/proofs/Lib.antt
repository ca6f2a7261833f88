pub mod Chains
mod Ended
mod Taken
pub mod Changes
pub mod Open
