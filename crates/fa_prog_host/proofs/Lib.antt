pub mod Faults
pub mod Opened
