pub mod Batches
pub mod Counted
pub mod Pages
pub mod Whole
