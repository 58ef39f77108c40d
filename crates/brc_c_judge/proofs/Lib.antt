pub mod Confirming
pub mod Images
