pub mod Found
pub mod Stalest
