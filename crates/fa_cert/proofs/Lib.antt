pub mod Entries
pub mod Marked
pub mod Placed
pub mod Shortages
