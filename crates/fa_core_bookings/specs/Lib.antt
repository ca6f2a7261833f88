pub mod Booked
pub mod Bookings
pub mod Found
pub mod Places
