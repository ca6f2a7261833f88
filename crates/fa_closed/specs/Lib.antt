pub mod Closed
pub mod Runs
