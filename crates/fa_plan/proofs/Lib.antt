pub mod Bounds
pub mod Copied
pub mod Handing
pub mod Laid
pub mod Making
pub mod OnePage
pub mod Reached
pub mod Seats
