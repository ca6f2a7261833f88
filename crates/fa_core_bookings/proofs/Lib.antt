mod Booked
pub mod Closed
mod Exchanged
mod Forgotten
pub mod Placed
mod Windows
