pub mod Chain
pub mod Entries
pub mod Finds
