pub mod Batches
pub mod Held
pub mod Indexed
pub mod Pushed
pub mod Rising
