pub mod Holds
mod Only
pub mod Turns
