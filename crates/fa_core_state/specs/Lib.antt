pub mod Begun
pub mod Core
pub mod Fitted
pub mod Tracked
