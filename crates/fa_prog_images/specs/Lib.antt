pub mod Array
pub mod Documents
pub mod Formatting
pub mod Lines
pub mod Mount
pub mod Table
