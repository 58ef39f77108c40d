pub mod CellsInTurn
pub mod NamesSet
pub mod Ranges
pub mod RegistersFrom
