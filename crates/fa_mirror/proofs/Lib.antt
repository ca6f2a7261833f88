mod Firsts
pub mod Chosen
pub mod Looks
pub mod Past
pub mod Slots
