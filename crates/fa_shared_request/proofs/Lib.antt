pub mod Begun
pub mod Counts
pub mod PartTallies
pub mod Sorting
pub mod Tiles
