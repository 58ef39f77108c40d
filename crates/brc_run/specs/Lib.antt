pub mod Runs
pub mod Tallies
