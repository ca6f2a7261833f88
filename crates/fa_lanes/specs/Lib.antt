pub mod Beginning
pub mod Hashing
pub mod Lanes
pub mod Wide
