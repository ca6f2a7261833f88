mod Answered
mod Counting
mod Counts
pub mod Opened
mod Handed
mod Kept
mod Placed
mod Recounted
mod Written
