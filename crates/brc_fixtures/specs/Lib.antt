pub mod Modules
pub mod Resting
