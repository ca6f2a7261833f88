pub mod House
pub mod Deeds
pub mod Orders
pub mod Inner
