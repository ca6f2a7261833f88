pub mod Made
pub mod Opens
pub mod Orders
