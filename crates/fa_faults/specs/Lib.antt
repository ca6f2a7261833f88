pub mod Causes
pub mod Faults
