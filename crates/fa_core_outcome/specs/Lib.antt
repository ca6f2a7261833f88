pub mod Fits
pub mod Handed
pub mod Outcomes
