pub mod ByTerms
pub mod DumpLines
pub mod Formatting
pub mod Inner
pub mod Rows
pub mod Sends
pub mod Told
