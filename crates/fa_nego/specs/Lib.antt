pub mod Heard
pub mod Negotiation
pub mod NegoState
pub mod Numbers
pub mod View
