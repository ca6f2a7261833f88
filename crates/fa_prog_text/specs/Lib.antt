pub mod HexLines
pub mod Output
pub mod Plan
pub mod Talk
pub mod Verify
pub mod VerifyLog
