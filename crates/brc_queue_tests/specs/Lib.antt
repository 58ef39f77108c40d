pub mod Sharing
pub mod Embedded
pub mod Modules
