pub mod Pages
pub mod Reading
pub mod Search
