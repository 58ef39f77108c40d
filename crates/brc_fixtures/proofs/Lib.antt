pub mod PlainModules
mod Callable
pub mod Alone
pub mod Resting
