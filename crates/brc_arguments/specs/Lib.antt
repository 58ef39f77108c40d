pub mod Acts
pub mod Options
