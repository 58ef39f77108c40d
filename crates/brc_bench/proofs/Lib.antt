mod Readiness
mod LockedSwaps
mod FirstSwaps
mod AtRest
mod HandedOver
pub mod Opening
pub mod NoLines
