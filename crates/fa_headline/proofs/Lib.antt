pub mod Batches
pub mod Claims
pub mod Lists
pub mod Reading
pub mod Reserving
pub mod Points
