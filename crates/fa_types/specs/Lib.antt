pub mod Geometry
pub mod Open
pub mod Plain
pub mod Store
pub mod Windows
