pub mod Conversation
pub mod Output
pub mod Program
pub mod Right
pub mod Serving
pub mod TalkArray
