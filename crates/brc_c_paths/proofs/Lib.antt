pub mod Differences
pub mod Listed
pub mod PathEnds
pub mod Rounds
pub mod Searched
pub mod Turns
