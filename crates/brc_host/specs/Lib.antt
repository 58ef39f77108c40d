pub mod FakeHost
pub mod HostCalls
pub mod HostCounts
