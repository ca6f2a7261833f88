pub mod Prepared
pub mod Ranges
pub mod Stages
pub mod Tasks
