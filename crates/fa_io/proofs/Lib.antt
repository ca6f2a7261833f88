pub mod LineLemmas
pub mod OneCall
pub mod StreamLemmas
