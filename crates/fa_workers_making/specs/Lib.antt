pub mod Beginning
pub mod Begun
