pub mod Bits
pub mod Changed
pub mod Empty
pub mod Leveled
pub mod Lowest
pub mod Membership
