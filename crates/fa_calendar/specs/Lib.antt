pub mod Busy
pub mod Calendar
pub mod DieState
pub mod Dies
pub mod Merging
pub mod Windows
