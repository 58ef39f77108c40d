pub mod Laws
pub mod Outlines
