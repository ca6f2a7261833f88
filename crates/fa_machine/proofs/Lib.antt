pub mod Lists
pub mod Maps
pub mod NumberTables
pub mod Orders
pub mod Takes
pub mod Values
