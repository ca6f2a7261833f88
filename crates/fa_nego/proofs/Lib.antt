pub mod Asking
pub mod Heads
pub mod OneAnswer
pub mod OneHandshake
pub mod Replies
pub mod StageLaws
pub mod Stages
