mod ByEights
mod Cuts
pub mod Headers
pub mod OpenedParts
pub mod Slots
