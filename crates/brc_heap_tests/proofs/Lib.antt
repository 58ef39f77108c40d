pub mod Readiness
mod Claiming
mod Marking
