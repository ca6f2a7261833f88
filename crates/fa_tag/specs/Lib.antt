pub mod Hashed
pub mod HeaderGrammar
pub mod OpenedTogether
pub mod SlotGrammar
