mod Announcing
pub mod Greeted
pub mod OneReading
pub mod Served
