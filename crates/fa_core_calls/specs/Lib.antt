pub mod Answers
pub mod Calls
pub mod Windows
