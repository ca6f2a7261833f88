pub mod Filters
pub mod Queues
pub mod Tables
mod Entries
mod Three
