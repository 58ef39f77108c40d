pub mod Steps
mod Opening
pub mod Rows
pub mod References
pub mod Between
pub mod StaticLists
