mod Rows
mod Tallied
mod Created
pub mod Opening
