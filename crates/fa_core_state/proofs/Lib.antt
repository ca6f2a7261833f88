pub mod Below
pub mod Fitted
pub mod Numbers
pub mod Tracked
