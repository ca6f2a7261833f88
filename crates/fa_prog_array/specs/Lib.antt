pub mod Ending
pub mod Mounting
