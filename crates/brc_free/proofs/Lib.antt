pub mod FirstDuties
pub mod Working
pub mod MergeEnds
pub mod GivingUp
pub mod Closes
pub mod SettleDuties
pub mod Claimed
