pub mod Effects
pub mod Accesses
pub mod Outcomes
pub mod FirstLists
