pub mod CommandLine
pub mod FaultLines
pub mod Faults
pub mod Keys
pub mod Meanings
pub mod Settings
pub mod Shapes
pub mod Terms
