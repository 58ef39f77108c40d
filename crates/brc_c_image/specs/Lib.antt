pub mod GraphOutlines
pub mod Images
pub mod States
