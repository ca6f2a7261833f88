pub mod DieTurns
pub mod Held
pub mod Rebuilding
pub mod Windows
