pub mod Points
pub mod Reads
pub mod Writes
pub mod Headline
pub mod OverImages
