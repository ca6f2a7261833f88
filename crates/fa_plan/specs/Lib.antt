pub mod Alone
pub mod Bound
pub mod Giving
pub mod Layout
pub mod Notes
pub mod Progress
pub mod Shortage
