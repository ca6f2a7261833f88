pub mod Commands
pub mod Faulty
pub mod Limits
pub mod Texts
pub mod Unknown
pub mod Verdicts
