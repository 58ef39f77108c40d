pub mod Limits
pub mod Text
pub mod Fault
pub mod EachText
