pub mod Closing
pub mod HostStates
