pub mod Ready
pub mod Swaps
pub mod PlainModule
