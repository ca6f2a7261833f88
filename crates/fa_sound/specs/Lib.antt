pub mod Owners
pub mod Ready
pub mod Sound
