pub mod Changes
pub mod Codes
pub mod Slots
pub mod Plain
pub mod Blocks
