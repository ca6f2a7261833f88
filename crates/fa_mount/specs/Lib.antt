pub mod Begins
pub mod Closing
pub mod MountsArray
pub mod Phases
pub mod RecoversArray
pub mod Standings
pub mod Told
pub mod Turns
