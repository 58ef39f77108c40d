mod Holding
pub mod Opening
