pub mod Levels
pub mod Members
pub mod Words
