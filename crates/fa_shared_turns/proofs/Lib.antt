pub mod Views
pub mod Rooms
