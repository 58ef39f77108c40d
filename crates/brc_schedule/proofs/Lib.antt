pub mod Words
pub mod Lines
pub mod Machine
pub mod LineToLine
pub mod Uniqueness
pub mod EachText
pub mod OwnFaults
