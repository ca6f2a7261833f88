pub mod ReachedPages
pub mod Walks
