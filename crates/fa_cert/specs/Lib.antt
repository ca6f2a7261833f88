pub mod Marks
pub mod Verdict
