pub mod Counting
pub mod Parts
