pub mod Deeds
pub mod Openings
