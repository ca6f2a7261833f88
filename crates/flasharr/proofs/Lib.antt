pub mod Limits
pub mod Said
pub mod Seen
pub mod Told
