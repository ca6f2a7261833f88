pub mod Lines
pub mod PlanLemmas
pub mod TalkLemmas
pub mod VerifyLemmas
