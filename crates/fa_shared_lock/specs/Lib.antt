pub mod Accounts
pub mod Codes
pub mod Founded
pub mod Locked
pub mod Moves
pub mod Only
pub mod Rest
pub mod Seats
