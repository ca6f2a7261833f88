pub mod Codes
pub mod Counted
pub mod Dies
pub mod Logs
pub mod Queues
pub mod Tabled
pub mod Waits
pub mod Claims
