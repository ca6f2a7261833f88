pub mod Turns
pub mod Calls
pub mod Stores
pub mod Collecting
pub mod Rebuilding
