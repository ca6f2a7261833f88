pub mod Booked
pub mod Left
