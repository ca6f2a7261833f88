pub mod LastCells
pub mod Mounted
pub mod Closed
pub mod Images
pub mod Drives
pub mod DrivenMounted
pub mod DrivenClosed
