pub mod Chaining
pub mod InLanes
pub mod Loading
pub mod Majority
pub mod Tails
pub mod WideLanes
pub mod WideLoading
