pub mod Memory
pub mod MemoryMeets
