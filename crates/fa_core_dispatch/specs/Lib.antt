pub mod Begins
pub mod Limits
