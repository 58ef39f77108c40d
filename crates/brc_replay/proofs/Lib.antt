pub mod Refuting
pub mod Replays
