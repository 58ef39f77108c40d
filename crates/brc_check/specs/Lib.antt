pub mod Accepted
pub mod Refusal
pub mod Tables
pub mod Lookups
pub mod Entries
pub mod Filling
pub mod PathTo
pub mod Searching
