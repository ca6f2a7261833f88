pub mod Covered
pub mod Windows
